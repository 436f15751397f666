-- why a box isn't settled: neither a handed-in cut nor the plan's certificate settles it
use Rattle.std.specs.Prelude.{ℕ, ◌<◌, List, [], All, map}
use Rattle.plan_terms.specs.Terms.{CutLine, Link}
use Rattle.plan_report.specs.Terms.{Certificate, Plan}
use Rattle.line_check.specs.Inequalities.{WeightedLine, line_of_cut}
use Rattle.tree_check.specs.Terms.{IsBoxValue, IsEmptiedBy, TreeBox}

-- the lines of a plan's certificate, with their numerators
abbrev pub lines_of_plan : List Link → Certificate → List WeightedLine
lines_of_plan links c = map (λ l. record { line = line_of_cut links l.cut; num = l.num }) c.lines

-- the plan's certificate, read as one of boxes, has this value for the box
abbrev pub HasPlanValue : List Link → Certificate → TreeBox → ℕ → Type 0
HasPlanValue links c box value = IsBoxValue links box c.den (lines_of_plan links c) value

-- the certificate of no lines has this value for the box
abbrev pub HasFreeValue : List Link → TreeBox → ℕ → Type 0
HasFreeValue links box value = IsBoxValue links box 1 [] value

-- a box that isn't settled at once: no handed-in cut empties it, and neither the plan's certificate nor that of no lines closes it
pub record IsUnsettled (links : List Link) (plan : Plan) (handed : List CutLine) (box : TreeBox) : Type 0 where
  pub unemptied : All (λ cut. IsEmptiedBy links box (line_of_cut links cut) → ⊥) handed
  pub by_plan : (value : ℕ) → HasPlanValue links plan.certificate box value → value < plan.cost
  pub by_none : (value : ℕ) → HasFreeValue links box value → value < plan.cost
