use Rattle.std.proofs.Common.{ℕ, List, Option, None, Some, ◌≡◌, ◌∙◌, ap, length, subst}
use Rattle.plan_terms.specs.Terms.{Routing}
use Rattle.module_choice.proofs.Pairs.{capacities_long}
use Rattle.plan_checker.{specs.Carried.IsOverloaded, specs.inner.Tests.IsFirstPair, specs.declared.place.Place.Place, proofs.Telling.no_overloaded}
use Rattle.plan_checker.proofs.routings.check_loads.Goals as goal

pub overloaded-requires-clause-count : goal.overloaded-requires-clause-count
overloaded-requires-clause-count c = ap (λ (ns : List ℕ). length ns) (c.items.ensures ∙ c.in_ok-caps.ensures.1) ∙ capacities_long c.args.instance.now.net.now.links c.args.counts.now c.requires.shape

-- what a search found of lent capacities holds of those that they are lent from
found : (nums lent : List ℕ) (routings : List Routing) (o known : Option Place) → lent ≡ nums → o ≡ known → IsFirstPair (IsOverloaded lent routings) o → IsFirstPair (IsOverloaded nums routings) known
found nums lent routings o known first second is = subst (IsFirstPair (IsOverloaded nums routings)) second (subst (λ (ns : List ℕ). IsFirstPair (IsOverloaded ns routings) o) first is)

pub returns-in-Some-clause-told : goal.returns-in-Some-clause-told
returns-in-Some-clause-told c = found _ _ c.args.routings.now _ (Some c.in-Some.at) (c.items.ensures ∙ c.in_ok-caps.ensures.1) c.in-Some.is c.in_ok-place.ensures

pub returns-clause-told : goal.returns-clause-told
returns-clause-told c = no_overloaded _ _ (found _ _ c.args.routings.now _ None (c.items.ensures ∙ c.in_ok-caps.ensures.1) c.in_default.is c.in_ok-place.ensures)

pub returns-clause-within : goal.returns-clause-within
returns-clause-within c = found _ _ c.args.routings.now _ None (c.items.ensures ∙ c.in_ok-caps.ensures.1) c.in_default.is c.in_ok-place.ensures
