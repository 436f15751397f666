-- lines: inequalities that able counts meet, of cuts and made from earlier lines
use Rattle.std.{specs.Prelude.{◌≡◌, ℕ, zero, suc, ◌+◌, ◌-◌, ◌/◌, ◌^◌, ◌≤◌, ◌<◌, ◌⊎◌, ◌↔◌, Bool, true, false, if◌then◌else◌, nat_eq, List, [], ◌∷◌, ◌++◌, Some, All, Contains, length, map, min, slice_get, slice_index, take, zip}, proofs.Common.{inl, inr}}
use Rattle.plan_terms.specs.Terms.{Case, CutLine, IsCut, Link, fails}
use Rattle.master_bound.specs.declared.answer.Multiplier.{Multiplier}
use Rattle.line_check.{specs.CoverWeights.IsLeastWeight, specs.Inequalities.{AreNamedBy, WeightedLine, entry, line_of_cut, module_number, module_price, need_of, summed_need, table_of}, specs.declared.inequality.Inequality.Inequality, specs.declared.line.Line.Line, specs.declared.line.Line.TheVariants.{Divided, Table}, specs.declared.line.TableKind.TableKind, specs.declared.line.TableKind.TheVariants.{Plain, Failing}}

-- ---- divided lines (Chvátal and Gomory's rounding)

-- a number over a divisor, rounded up
abbrev pub divided_up : ℕ → ℕ → ℕ
divided_up n divisor = (n + divisor - 1) / divisor

-- the sum of lines, no coefficient above what is needed, divided and rounded up
abbrev pub divided_line : List Link → ℕ → List WeightedLine → Inequality
divided_line links divisor terms = record {
  coefs = table_of links (λ e m. divided_up (min (module_price terms e m) (summed_need terms)) divisor);
  given = 0;
  right = divided_up (summed_need terms) divisor;
}

-- the divided line of lines that indices name: at most 256 of them, and its numbers keep their limits
pub record IsDividedLine (links : List Link) (names : ℕ → Inequality → Type 0) (divisor : ℕ) (multipliers : List Multiplier) (made : Inequality) : Type 0 where
  pub terms : List WeightedLine
  pub named : AreNamedBy names multipliers terms
  pub some : 1 ≤ length multipliers
  pub few : length multipliers ≤ 256
  pub nums : All (λ m. (1 ≤ m.num) × (m.num < 2 ^ 62)) multipliers
  pub positive : 1 ≤ divisor
  pub divisor_limit : divisor < 2 ^ 126
  pub need_limit : summed_need terms < 2 ^ 126
  pub price_limit : (e m : ℕ) → e < length links → m < module_number links e → module_price terms e m < 2 ^ 126
  pub is : made ≡ divided_line links divisor terms

-- ---- table lines

-- what a module gives at most towards what a line needs
abbrev pub capped : Inequality → ℕ → ℕ → ℕ
capped over e m = min (entry over.coefs e m) (need_of over)

-- some module gives this number
abbrev pub GivesSome : List Link → Inequality → ℕ → Type 0
GivesSome links over n = (e : ℕ) × (m : ℕ) × (e < length links) × (m < module_number links e) × (capped over e m ≡ n)

-- the kinds of modules that a line tells apart: what they give, where that is positive, each once, rising
pub record AreKinds (links : List Link) (over : Inequality) (kinds : List ℕ) : Type 0 where
  pub rising : (i j : ℕ) → i < j → j < length kinds → slice_index kinds i < slice_index kinds j
  pub each : (n : ℕ) → Contains kinds n ↔ ((0 < n) × GivesSome links over n)

-- no state fails the link
abbrev pub NeverFails : Case → ℕ → Type 0
NeverFails p e = (s : ℕ) → fails p.listed s e ≡ false

-- a module that gives this number lies on a link that no state fails
abbrev pub IsSpared : Case → Inequality → ℕ → Type 0
IsSpared p over n = (e : ℕ) × (m : ℕ) × (e < length p.links) × (m < module_number p.links e) × (capped over e m ≡ n) × NeverFails p e

-- what the failed module of a kind weighs: nothing where one of the kind can't fail
abbrev pub IsFailedWeight : Case → Inequality → ℕ → ℕ → ℕ → Type 0
IsFailedWeight p over kind weight failed = (IsSpared p over kind × (failed ≡ 0)) ⊎ ((IsSpared p over kind → ⊥) × (failed ≡ weight))

-- what is weighed at least where the largest kind used is that of place k, and one module of it fails: the failed one, and a cover by the others
pub record IsWeightWithout (p : Case) (over : Inequality) (kinds weights : List ℕ) (k weight : ℕ) : Type 0 where
  pub inside : k < length kinds
  pub failed : ℕ
  pub is_failed : IsFailedWeight p over (slice_index kinds k) (slice_index weights k) failed
  pub least : ℕ
  pub is_least : IsLeastWeight (take (k + 1) kinds) (take (k + 1) weights) (need_of over) least
  pub sum : weight ≡ failed + least

-- the right side of a table line: the least weight of a cover, or the least one where a largest module used has failed
abbrev pub IsTableRight : Case → Inequality → List ℕ → List ℕ → TableKind → ℕ → Type 0
IsTableRight p over kinds weights Plain right = IsLeastWeight kinds weights (need_of over) right
IsTableRight p over kinds weights Failing right =
    ((k : ℕ) × IsWeightWithout p over kinds weights k right)
    × ((k : ℕ) → k < length kinds → (weight : ℕ) × IsWeightWithout p over kinds weights k weight × (right ≤ weight))

-- the weight of a kind, by the list of kinds with their weights; 0 where it isn't there
abbrev pub weight_of : List (ℕ × ℕ) → ℕ → ℕ
weight_of [] n = 0
weight_of (kind ∷ kinds) n = if nat_eq kind.0 n then kind.1 else weight_of kinds n

-- the line of these weights and this right side
abbrev pub table_line : List Link → Inequality → List ℕ → List ℕ → ℕ → Inequality
table_line links over kinds weights right = record {
  coefs = table_of links (λ e m. weight_of (zip kinds weights) (capped over e m));
  given = 0;
  right = right;
}

-- the table line over a line that needs 1 to 4,096, with a weight for each of its kinds
pub record IsTableOver (p : Case) (over : Inequality) (kind : TableKind) (weights : List ℕ) (made : Inequality) : Type 0 where
  pub some : 1 ≤ need_of over
  pub few : need_of over ≤ 4096
  pub kinds : List ℕ
  pub are : AreKinds p.links over kinds
  pub paired : length weights ≡ length kinds
  pub right : ℕ
  pub is_right : IsTableRight p over kinds weights kind right
  pub is : made ≡ table_line p.links over kinds weights right

-- the table line over the line that an index names
abbrev pub IsTableLine : Case → (ℕ → Inequality → Type 0) → ℕ → TableKind → List ℕ → Inequality → Type 0
IsTableLine p names index kind weights made = (over : Inequality) × names index over × IsTableOver p over kind weights made

-- ---- sources of lines

-- what a line comes from: a cut, or earlier lines
abbrev pub Source : Type 0
Source = CutLine ⊎ Line

-- cuts, and further lines after them
abbrev pub sources_of : List CutLine → List Line → List Source
sources_of cuts lines = map inl cuts ++ map inr lines

-- which inequality an index names, and whether as a robust one
abbrev pub Naming : Type 1
Naming = Bool → ℕ → Inequality → Type 0

-- The inequality that a source makes of those that indices name. It is robust where it is the cut of the state in which nothing fails, or
-- made of robust ones alone, without a failing table. A failing table line is made of a robust one.
abbrev pub IsMadeFrom : Case → Naming → Bool → Source → Inequality → Type 0
IsMadeFrom p names robust (inl cut) made = IsCut p cut × (robust ≡ true → cut.state.0 ≡ 0) × (made ≡ line_of_cut p.links cut)
IsMadeFrom p names robust (inr (Divided divisor terms)) made = IsDividedLine p.links (names robust) divisor terms made
IsMadeFrom p names robust (inr (Table index Plain weights)) made = IsTableLine p (names robust) index Plain weights made
IsMadeFrom p names robust (inr (Table index Failing weights)) made = (robust ≡ false) × IsTableLine p (names true) index Failing weights made

-- the source at a place makes an inequality
pub record IsMadeAt (p : Case) (names : Naming) (robust : Bool) (sources : List Source) (i : ℕ) (made : Inequality) : Type 0 where
  pub source : Source
  pub at : slice_get sources i ≡ Some source
  pub is : IsMadeFrom p names robust source made

-- which inequalities the indices of the first n sources name, each made of earlier ones
abbrev pub names_among : Case → List Source → ℕ → Bool → ℕ → Inequality → Type 0
names_among p sources zero robust i made = ⊥
names_among p sources (suc n) robust i made =
    names_among p sources n robust i made ⊎ ((i ≡ n) × IsMadeAt p (names_among p sources n) robust sources n made)

-- an index names a line of sources
abbrev pub NamesLine : Case → List Source → ℕ → Inequality → Type 0
NamesLine p sources i made = names_among p sources (length sources) false i made

-- an index names a robust line
abbrev pub NamesRobust : Case → List Source → ℕ → Inequality → Type 0
NamesRobust p sources i made = names_among p sources (length sources) true i made
