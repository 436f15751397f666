-- weights of table lines, and divisors under them
use Rattle.std.specs.Prelude.{◌≡◌, ℕ, ◌*◌, ◌<◌, ◌≤◌, List, All}
use Rattle.line_check.{specs.Terms.need_of, specs.declared.inequality.Inequality.Inequality, specs.declared.line.Line.Line, specs.declared.line.Line.TheVariants.Table, specs.declared.line.TableKind.TableKind}

-- a table line with no weight above the greatest
pub record IsLightTable (most : ℕ) (line : Line) : Type 0 where
  pub index : ℕ
  pub kind : TableKind
  pub weights : List ℕ
  pub is : line ≡ Table index kind weights
  pub light : All (λ weight. weight ≤ most) weights

-- a divisor over which a line needs at most 4,096, and which is at most what it needs
abbrev pub IsNarrowDivisor : Inequality → ℕ → Type 0
IsNarrowDivisor line divisor = (0 < divisor) × (divisor ≤ need_of line) × (need_of line ≤ 4096 * divisor)
