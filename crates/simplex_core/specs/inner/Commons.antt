-- values as fractions, common denominators, and values over one
use Rattle.std.{specs.Prelude.{ℕ, ℤ, List, length, Option, Some, None, Result, Ok, Err, ◌≡◌, ◌<◌, ◌≤◌, ◌*◌, ◌/◌, ◌^◌, unsigned_abs}, specs.Int.◌∣◌, specs.List.slice_get}
use Rattle.checked_fraction.specs.declared.row.Row.{Row}
use Rattle.simplex_law.specs.Terms.{dot}
use Rattle.simplex_core.{specs.Tables.{nums_at, den_at}, specs.inner.Shapes.AtEach, specs.inner.Values.sizes_of, specs.declared.fraction.Fraction.Fraction, specs.declared.value.ValueFault.ValueFault, specs.declared.value.ValueFault.TheVariants.{Sum, Common, NoMemory}}

-- the size of value over den, as a fraction whose denominator divides den
pub record IsFractionOf (value den : ℤ) (f : Fraction) : Type 0 where
  pub same : f.num * unsigned_abs den ≡ unsigned_abs value * f.den
  pub divides : f.den ∣ unsigned_abs den

abbrev pub num_of_fraction : Option Fraction → ℕ
num_of_fraction None = 0
num_of_fraction (Some f) = f.num

abbrev pub den_of_fraction : Option Fraction → ℕ
den_of_fraction None = 1
den_of_fraction (Some f) = f.den

-- the denominator of fraction i
abbrev pub fraction_den : List Fraction → ℕ → ℕ
fraction_den fractions i = den_of_fraction (slice_get fractions i)

-- the values of all rows as fractions
pub record AreFractionsOf (rows : List Row) (bound : ℕ → ℤ) (fractions : List Fraction) : Type 0 where
  pub count : length fractions ≡ length rows
  pub each : AtEach (λ j f. IsFractionOf (dot (length rows) (nums_at rows j) bound) (den_at rows j) f) fractions

-- the values of all rows as fractions, or a row whose value is too wide
abbrev pub HaveFractions : List Row → (ℕ → ℤ) → Result (List Fraction) ValueFault → Type 0
HaveFractions rows bound (Ok fractions) = AreFractionsOf rows bound fractions
HaveFractions rows bound (Err (Sum i)) = (i < length rows) × (2 ^ 126 ≤ sizes_of (length rows) (nums_at rows i) bound)
HaveFractions rows bound (Err Common) = ⊥
HaveFractions rows bound (Err NoMemory) = Unit {0}

-- the first n denominators divide c
abbrev pub DivideAll : (ℕ → ℕ) → ℕ → ℕ → Type 0
DivideAll dens n c = (i : ℕ) → i < n → dens i ∣ c

-- the least common denominator of the first n, which is narrow
pub record IsDenominator (dens : ℕ → ℕ) (n den : ℕ) : Type 0 where
  pub some : 0 < den
  pub narrow : den < 2 ^ 62
  pub all : DivideAll dens n den
  pub least : (c : ℕ) → DivideAll dens n c → den ∣ c

-- a wide number that divides each common multiple of all denominators
abbrev pub HaveNoDenominator : (ℕ → ℕ) → ℕ → Type 0
HaveNoDenominator dens n = (part : ℕ) × (2 ^ 62 ≤ part) × ((c : ℕ) → DivideAll dens n c → part ∣ c)

-- the least common denominator where it is narrow
abbrev pub IsCommonDenominator : List Fraction → Option ℕ → Type 0
IsCommonDenominator fractions None = HaveNoDenominator (fraction_den fractions) (length fractions)
IsCommonDenominator fractions (Some den) = IsDenominator (fraction_den fractions) (length fractions) den

-- the numerator of fraction j over den
abbrev pub value_at : List Fraction → ℕ → ℕ → ℕ
value_at fractions den j = num_of_fraction (slice_get fractions j) * (den / fraction_den fractions j)
