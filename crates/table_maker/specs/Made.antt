-- lines that are made for a program: which they are, and that they hold
use Rattle.std.{specs.Int.◌∣◌, specs.Prelude.{◌≡◌, ◌⊎◌, ℕ, ◌*◌, ◌^◌, ◌≤◌, ◌<◌, false, List, [], ◌∷◌, All, Contains, IsTrue, length, sum_by}, proofs.Common.inr}
use Rattle.plan_terms.specs.Terms.{Case, Link, case_of}
use Rattle.line_check.{specs.Terms.{entry, module_number, need_of, names_by, test_at, IsMadeFrom, capped, divided_up}, specs.declared.inequality.Inequality.Inequality, specs.declared.line.Line.Line, specs.declared.line.Line.TheVariants.{Divided, Table}, specs.declared.line.TableKind.TableKind, specs.declared.tested_lines.Tested.Tested}
use Rattle.table_maker.{specs.declared.task.Part.Part, specs.declared.task.TableTask.TableTask}

-- a line that was tested holds, and tables over it are small enough
abbrev pub MayCarryTable : Tested → Type 0
MayCarryTable t = IsTrue t.sound × (1 ≤ need_of t.line) × (need_of t.line ≤ 4096)

-- a line that was tested holds, and tables over it would be too large; its numbers are below 2^126
pub record IsWideLine (links : List Link) (t : Tested) : Type 0 where
  pub sound : IsTrue t.sound
  pub wide : 4096 < need_of t.line
  pub need_limit : need_of t.line < 2 ^ 126
  pub coef_limit : (e m : ℕ) → e < length links → m < module_number links e → entry t.line.coefs e m < 2 ^ 126

-- the line of an index alone, over a divisor
abbrev pub line_over : ℕ → ℕ → Line
line_over i divisor = Divided divisor (record { num = 1; cut = i } ∷ [])

-- a number divides what a line needs, and what each module gives of that
pub record DividesLine (links : List Link) (line : Inequality) (divisor : ℕ) : Type 0 where
  pub need : divisor ∣ need_of line
  pub gives : (e m : ℕ) → e < length links → m < module_number links e → divisor ∣ capped line e m

-- a divisor leaves a line a need of at most 4,096, and no lesser one does, or nothing is rounded
abbrev pub IsFineDivisor : List Link → Inequality → ℕ → Type 0
IsFineDivisor links line divisor = (divided_up (need_of line) 4096 ≤ divisor) × (DividesLine links line divisor ⊎ (divisor ≡ divided_up (need_of line) 4096))

-- one of the lines is that of an index alone, over a fine divisor
abbrev pub HasLineOver : List Link → List Tested → List Line → ℕ → Type 0
HasLineOver links tested lines i = (divisor : ℕ) × IsFineDivisor links (test_at tested i).line divisor × Contains lines (line_over i divisor)

-- a tested line over a divisor holds where the tested one does, and needs 1 to 4,096
pub record IsNarrowLine (p : Case) (tested : List Tested) (line : Line) : Type 0 where
  pub index : ℕ
  pub divisor : ℕ
  pub is : line ≡ line_over index divisor
  pub made : Inequality
  pub holds : IsMadeFrom p (names_by tested) false (inr line) made
  pub some : 1 ≤ need_of made
  pub few : need_of made ≤ 4096

-- what the modules of a point give, in parts over its denominator
abbrev pub given_at : List Part → Inequality → ℕ
given_at point line = sum_by (λ x. entry line.coefs x.link x.module * x.parts) point

-- a table line over a tested one, no weight above the greatest: it holds where the tested one does, and a point over a denominator doesn't meet it
pub record IsMissedTable (p : Case) (tested : List Tested) (point : List Part) (den most : ℕ) (line : Line) : Type 0 where
  pub index : ℕ
  pub kind : TableKind
  pub weights : List ℕ
  pub is : line ≡ Table index kind weights
  pub light : All (λ weight. weight ≤ most) weights
  pub made : Inequality
  pub holds : IsMadeFrom p (names_by tested) false (inr line) made
  pub missed : given_at point made < need_of made * den

-- a table line that a task's point doesn't meet
abbrev pub IsTableFor : TableTask → Line → Type 0
IsTableFor task line = IsMissedTable (case_of task.instance.now) task.tested.now task.point.now task.den task.most_weight line
