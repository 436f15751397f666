-- what is known of how cheap a plan is, beside its own bound
use Rattle.std.specs.Prelude.{ℕ, ◌≤◌, List}
use Rattle.plan_terms.specs.Terms.{Case, IsAble, total_cost}
use Rattle.plan_types.specs.declared.plan.Plan.{Plan}
use Rattle.view_text.{specs.declared.proof.CostProof.CostProof, specs.declared.proof.CostProof.TheVariants.{Nothing, Cheapest, Above}}

-- no able counts cost less than this
abbrev pub CostsAtLeast : Case → ℕ → Type 0
CostsAtLeast p least = (counts : List (List ℕ)) → IsAble p counts → least ≤ total_cost p.links counts

-- The plan is told to be cheapest, or a least cost is told, only where no able counts cost less.
abbrev pub HoldsProof : Case → Plan → CostProof → Type 0
HoldsProof p plan Nothing = Unit {0}
HoldsProof p plan (Cheapest boxes) = CostsAtLeast p plan.cost
HoldsProof p plan (Above boxes least) = CostsAtLeast p least
