-- lines that were tested, one for each source
use Rattle.std.specs.Prelude.{◌≡◌, ◌↔◌, ℕ, ◌<◌, ◌&&◌, Bool, true, false, List, [], IsTrue, length, map, slice_index_or}
use Rattle.plan_terms.specs.Terms.{Case}
use Rattle.master_bound.specs.declared.answer.Multiplier.{Multiplier}
use Rattle.line_check.{specs.Inequalities.WeightedLine, specs.Lines.{IsMadeFrom, Source, names_among}, specs.declared.inequality.Inequality.Inequality, specs.declared.tested_lines.Tested.Tested}

-- a test that nothing passed
abbrev pub no_test : Tested
no_test = record { sound = false; robust = false; line = record { coefs = []; given = 0; right = 0 } }

-- the test at a place; that of nothing past the end
abbrev pub test_at : List Tested → ℕ → Tested
test_at tested i = slice_index_or tested i no_test

-- index i is that of a line that holds
abbrev pub IsSoundAt : List Tested → ℕ → Type 0
IsSoundAt tested i = (i < length tested) × IsTrue (test_at tested i).sound

-- lines by their indices, with their numerators
abbrev pub weighed : List Tested → List Multiplier → List WeightedLine
weighed tested multipliers = map (λ m. record { line = (test_at tested m.cut).line; num = m.num }) multipliers

-- what a test says of its line: that it holds, or that it holds and is robust
abbrev pub says : Bool → Tested → Bool
says true t = t.sound && t.robust
says false t = t.sound

-- which inequality an index names by tests
abbrev pub names_by : List Tested → Bool → ℕ → Inequality → Type 0
names_by tested robust i line = (i < length tested) × IsTrue (says robust (test_at tested i)) × (line ≡ (test_at tested i).line)

-- a test of a source, of which earlier tests name lines: it says exactly what the source makes of these
abbrev pub IsTestedAs : Case → List Tested → Source → Tested → Type 0
IsTestedAs p earlier source t = (robust : Bool) (made : Inequality)
    → IsMadeFrom p (names_by earlier) robust source made ↔ (IsTrue (says robust t) × (made ≡ t.line))

-- the sources were tested, one by one: what indices name by these tests is what they name
pub record AreTested (p : Case) (sources : List Source) (tested : List Tested) : Type 0 where
  pub same : length tested ≡ length sources
  pub names : (robust : Bool) (i : ℕ) (made : Inequality) → names_among p sources (length sources) robust i made ↔ names_by tested robust i made
