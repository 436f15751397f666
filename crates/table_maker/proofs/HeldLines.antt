-- lines that a test says hold
use Rattle.std.proofs.Common.{◌≡◌, ℕ, ◌*◌, ◌≤◌, ◌<◌, List, All, IsTrue, false, refl, inr}
use Rattle.plan_terms.specs.Terms.{Case}
use Rattle.line_check.{specs.Terms.{need_of, IsTestedAs}, specs.declared.line.Line.Line, specs.declared.line.Line.TheVariants.Table, specs.declared.line.TableKind.TableKind, specs.declared.tested_lines.Tested.Tested}
use Rattle.table_maker.{specs.Made.{IsMissedTable, IsNarrowLine, MayCarryTable, given_at, line_over}, specs.inner.Weighing.IsLightTable, specs.declared.task.Part.Part}

-- what a test finds narrow is a narrow line
pub narrow_is : (p : Case) (tested : List Tested) (index divisor : ℕ) (line : Line) (t : Tested) → line ≡ line_over index divisor → IsTestedAs p tested (inr line) t → MayCarryTable t → IsNarrowLine p tested line
narrow_is p tested index divisor line t own is narrow = record {
  index = index;
  divisor = divisor;
  is = own;
  made = t.line;
  holds = (is false t.line).1 (narrow.0, refl);
  some = narrow.1;
  few = narrow.2;
}

-- a table line of light weights is light
pub light_is : (most index : ℕ) (kind : TableKind) (weights : List ℕ) → All (λ (weight : ℕ). weight ≤ most) weights → IsLightTable most (Table index kind weights)
light_is most index kind weights light = record { index = index; kind = kind; weights = weights; is = refl; light = light }

-- a light table line that holds and that a point doesn't meet
pub missed_is : (p : Case) (tested : List Tested) (point : List Part) (den most : ℕ) (line : Line) (t : Tested) → IsTestedAs p tested (inr line) t
    → IsLightTable most line → IsTrue t.sound → given_at point t.line < need_of t.line * den → IsMissedTable p tested point den most line
missed_is p tested point den most line t is light sound missed = record {
  index = light.index;
  kind = light.kind;
  weights = light.weights;
  is = light.is;
  light = light.light;
  made = t.line;
  holds = (is false t.line).1 (sound, refl);
  missed = missed;
}
