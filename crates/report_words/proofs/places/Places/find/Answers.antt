use Rattle.std.proofs.Common.{◌≡◌, ℕ, List, subst, ◌∙◌, position}
use Rattle.net_core.specs.Terms.{are_same}
use Rattle.report_words.proofs.Lookups.{found_by}
use Rattle.report_words.proofs.places.Places.find.Goals as goal

pub returns-clause-place : goal.returns-clause-place
returns-clause-place c =
    subst (λ (ns : List (List ℕ)). c.get_index_of.result ≡ position (λ n. are_same n c.args.name.now) ns) (c.self.view_is)
    (c.get_index_of.ensures.index ∙ found_by (λ n. n.now) c.args.name.now c.self.inside.names.keys)
