use Rattle.std.proofs.Common.{◌≡◌, ℕ, false, true, List, sym, subst, ◌∙◌}
use Rattle.net_core.specs.Terms.{is_named}
use Rattle.report_words.proofs.Lookups.{known_by, new_by, old_by}
use Rattle.report_words.proofs.places.Places.add.Goals as goal

pub returns-clause-fresh : goal.returns-clause-fresh
returns-clause-fresh c = λ e.
    subst (λ (ns : List (List ℕ)). is_named (λ n. n) c.args.name.now ns ≡ false) (c.self.view_is)
    (sym (known_by (λ n. n.now) c.args.name.now c.self.inside.names.keys) ∙ new_by _ _ c.in_ok-added.ensures.added e)

pub returns-clause-old : goal.returns-clause-old
returns-clause-old c = λ e.
    subst (λ (ns : List (List ℕ)). is_named (λ n. n) c.args.name.now ns ≡ true) (c.self.view_is)
    (sym (known_by (λ n. n.now) c.args.name.now c.self.inside.names.keys) ∙ old_by _ _ c.in_ok-added.ensures.added e)
