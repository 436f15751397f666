-- lines made of earlier ones that were tested
use Rattle.std.specs.Prelude.{◌≤◌, List, false}
use Rattle.plan_terms.specs.Terms.{Link}
use Rattle.line_check.{specs.Terms.{IsDividedLine, names_by}, specs.declared.inequality.Inequality.Inequality, specs.declared.line.Line.Line, specs.declared.line.Line.TheVariants.{Divided, Table}, specs.declared.tested_lines.Tested.Tested}

-- a divided line that holds: of tested lines that hold, with numbers in their limits, and with this inequality
abbrev pub MakesLine : List Link → List Tested → Line → Inequality → Type 0
MakesLine links tested (Divided divisor terms) made = IsDividedLine links (names_by tested false) divisor terms made
MakesLine links tested (Table line kind weights) made = ⊥

-- a divided line that holds
abbrev pub IsMadeLine : List Link → List Tested → Line → Type 0
IsMadeLine links tested line = (made : Inequality) × MakesLine links tested line made

-- a divided line that holds, whose right side is from 1 to 64
abbrev pub IsCoarseLine : List Link → List Tested → Line → Type 0
IsCoarseLine links tested line = (made : Inequality) × MakesLine links tested line made × (1 ≤ made.right) × (made.right ≤ 64)
