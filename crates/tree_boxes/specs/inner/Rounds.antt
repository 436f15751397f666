-- what a look at a box's program leaves
use Rattle.std.specs.Prelude.{ℕ, ◌<◌, List}
use Rattle.plan_terms.specs.Terms.{Case, CutLine}
use Rattle.plan_types.specs.declared.plan.Plan.{Plan}
use Rattle.tree_check.specs.Terms.{Tested, TreeBox}
use Rattle.tree_boxes.{specs.declared.evaluation.Round.Round, specs.declared.found.Found.Found, specs.Finds.{IsFoundAt, IsValued}}
use Rattle.tree_boxes.specs.declared.evaluation.Round.TheVariants as round

-- what a look at the program of an open box leaves: what is found there, or a certificate that doesn't close it
abbrev pub IsRoundTo : Case → Plan → List Tested → TreeBox → Round → Type 0
IsRoundTo p plan tested box (round.Found f) = (handed : List CutLine) (n : ℕ) → IsFoundAt p plan handed tested n box f
IsRoundTo p plan tested box (round.Open best rank again) = IsValued p plan tested box best × (best.value < plan.cost)
