use Rattle.std.proofs.Common.{◌≡◌, ℕ, true, false, List, Option, None, Some, IsNone, MatchOption, subst, sym}
use Rattle.line_check.specs.Terms.{Multiplier, weighed}
use Rattle.tree_check.specs.BoxValues.{IsBoxValue}
use Rattle.tree_check.proofs.value.cert_value.Goals as goal

where_none : (o : Option ℕ) (P : Type 0) (Q : ℕ → Type 0) → IsNone o → MatchOption o P Q → P
where_none None P Q none p = p
where_none (Some v) P Q none q = absurd (let e : true ≡ false = none in cc e)

pub returns-clause-none : goal.returns-clause-none
returns-clause-none c none v sound is =
    where_none c.box_value.result _ _ none c.box_value.ensures v
    (subst (λ (ms : List Multiplier). IsBoxValue c.args.links.now c.args.boxed.now c.args.cert.now.den (weighed c.args.tested.now ms) v) (sym c.items-2.ensures) is)
