use Rattle.std.{proofs.Common.{◌≡◌, Bool, true, false, refl, subst, sym, eqb-true, not}, proofs.lemmas.Bool.{eq-eqb, not_from_false}}
use Rattle.tree_check.{specs.Proofs.VerdictFollows, proofs.Walked.{closed_by_verdict, follows_closed, least_follows, least_is_found}}
use Rattle.tree_check.proofs.walk.follows.Goals as goal

false_from_not : (b : Bool) → not b ≡ true → b ≡ false
false_from_not true is = absurd (let e : false ≡ true = is in cc e)
false_from_not false is = refl

pub returns-in-Cheapest : goal.returns-in-Cheapest
returns-in-Cheapest c = λ p proof so. (
  λ yes. subst (VerdictFollows p proof) (sym c.in-Cheapest.is) (follows_closed p proof c.args.found.now so (false_from_not c.args.found.now.is_open yes)),
  λ follows. not_from_false c.args.found.now.is_open (closed_by_verdict p proof c.args.found.now so (subst (VerdictFollows p proof) c.in-Cheapest.is follows)),
)

pub returns-in-Above : goal.returns-in-Above
returns-in-Above c = λ p proof so. (
  λ yes. subst (VerdictFollows p proof) (sym c.in-Above.is) (least_follows p proof c.args.found.now so c.in-Above.least (eqb-true _ _ yes)),
  λ follows. eq-eqb _ _ (least_is_found p proof c.args.found.now so c.in-Above.least (subst (VerdictFollows p proof) c.in-Above.is follows)),
)
