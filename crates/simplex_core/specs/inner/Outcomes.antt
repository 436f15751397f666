-- what comes of a best basis
use Rattle.std.specs.Prelude.{ℕ, List, length, Result, Ok, Err, ◌≡◌, ◌<◌, ◌≤◌, ◌^◌}
use Rattle.checked_fraction.specs.Terms.{num}
use Rattle.net_core.{specs.declared.columns.WideKind.WideKind, specs.declared.columns.WideKind.TheVariants.{Number, Row as RowOf, Product, Sum, Common, Value, Length}}
use Rattle.simplex_core.{specs.inner.Commons.{AreFractionsOf, fraction_den, IsDenominator, HaveNoDenominator, DivideAll, value_at}, specs.Tables.nums_at, specs.inner.Shapes.AtEach, specs.inner.Values.sizes_of, specs.declared.basis.Basis.Basis, specs.declared.fraction.Fraction.Fraction, specs.declared.optimum.Optimum.Optimum, specs.declared.solver.SimplexFault.SimplexFault, specs.declared.solver.SimplexFault.TheVariants.{Wide, NoMemory}, specs.declared.solver.Values.Values, specs.declared.value.ValueFault.ValueFault, specs.declared.value.ValueFault.TheVariants.{Sum as SumFault, Common as CommonFault, NoMemory as NoMemoryFault}}

-- over each narrow common denominator, the values are below 2 ^ 124
abbrev pub HasLowValues : {N : Type 0} → Basis N → Type 0
HasLowValues b = (fractions : List Fraction) (den : ℕ) → AreFractionsOf b.rows (num b.bounds) fractions → 0 < den → den < 2 ^ 62
    → DivideAll (fraction_den fractions) (length fractions) den
    → (j : ℕ) → j < length fractions → value_at fractions den j < 2 ^ 124

-- the values of a basis over their common denominator, with its names and prices
pub record IsValued {N : Type 0} (b : Basis N) (best : Optimum N) : Type 0 where
  pub names : best.basis ≡ b.names
  pub duals : best.duals ≡ b.duals
  pub fractions : List Fraction
  pub are : AreFractionsOf b.rows (num b.bounds) fractions
  pub den : IsDenominator (fraction_den fractions) (length fractions) best.den
  pub count : length best.values ≡ length fractions
  pub values : AtEach (λ j v. v ≡ value_at fractions best.den j) best.values

-- what is too wide at the end
abbrev pub IsWideEnd : {N : Type 0} → Basis N → WideKind N → Type 0
IsWideEnd b Common = (fractions : List Fraction) × AreFractionsOf b.rows (num b.bounds) fractions
    × HaveNoDenominator (fraction_den fractions) (length fractions)
IsWideEnd b (Sum i) = (i < length b.rows) × (2 ^ 126 ≤ sizes_of (length b.rows) (nums_at b.rows i) (num b.bounds))
IsWideEnd b (RowOf i) = ⊥
IsWideEnd b (Product i name) = ⊥
IsWideEnd b (Number name) = ⊥
IsWideEnd b Value = ⊥
IsWideEnd b (Length link) = ⊥

-- the values of a basis over their common denominator
pub record HaveValues {N : Type 0} (b : Basis N) (v : Values) : Type 0 where
  pub fractions : List Fraction
  pub are : AreFractionsOf b.rows (num b.bounds) fractions
  pub den : IsDenominator (fraction_den fractions) (length fractions) v.den
  pub count : length v.nums ≡ length fractions
  pub nums : AtEach (λ j n. n ≡ value_at fractions v.den j) v.nums

-- the values of a basis, or what is too wide
abbrev pub IsValuesOutcome : {N : Type 0} → Basis N → Result Values ValueFault → Type 0
IsValuesOutcome b (Ok v) = HaveValues b v
IsValuesOutcome b (Err (SumFault i)) = IsWideEnd b (Sum i)
IsValuesOutcome b (Err CommonFault) = IsWideEnd b Common
IsValuesOutcome b (Err NoMemoryFault) = Unit {0}

-- how a basis ends
abbrev pub IsBasisOutcome : {N : Type 0} → Basis N → Result (Optimum N) (SimplexFault N) → Type 0
IsBasisOutcome b (Ok best) = IsValued b best
IsBasisOutcome b (Err (Wide names kind)) = (names ≡ b.names) × IsWideEnd b kind
IsBasisOutcome b (Err NoMemory) = Unit {0}
