-- what the passes over a combined row find and write
use Rattle.std.{specs.Prelude.{ℕ, ℤ, List, pos, ◌≡◌, ◌<◌, ◌≤◌, ◌/◌, ◌*ℤ◌, ◌^◌, length, unsigned_abs, int_div}, specs.Int.◌∣◌}
use Rattle.checked_fraction.{specs.Rows.{num, IsNarrow}, specs.Mixed.combined, specs.declared.mix.Mix.Mix, specs.declared.pivot.Survey.Survey, specs.declared.pivot.Found.Found, specs.declared.wide.WideNumber.WideNumber}

-- rows of equal length, and factors, all narrow
pub record CanMix (nums pivot : List ℤ) (mix : Mix) : Type 0 where
  pub equal : length nums ≡ length pivot
  pub row : (k : ℕ) → IsNarrow (num nums k)
  pub other : (k : ℕ) → IsNarrow (num pivot k)
  pub p : IsNarrow mix.p
  pub q : IsNarrow mix.q

-- number k of the combined row
abbrev pub raw : List ℤ → List ℤ → Mix → ℕ → ℤ
raw nums pivot mix = combined (num nums) mix.p (num pivot) mix.q

-- each number divided by g
abbrev pub over : (ℕ → ℤ) → ℕ → ℕ → ℤ
over f g k = int_div (f k) (pos g)

-- g divides whole and the first n numbers, and whatever divides all of these divides g
pub record IsRowGcd (f : ℕ → ℤ) (n whole g : ℕ) : Type 0 where
  pub of_whole : g ∣ whole
  pub of_numbers : (k : ℕ) → k < n → g ∣ unsigned_abs (f k)
  pub greatest : (d : ℕ) → d ∣ whole → ((k : ℕ) → k < n → d ∣ unsigned_abs (f k)) → d ∣ g

-- the greatest common divisor, and a number that no size exceeds
pub record IsSurvey (f : ℕ → ℤ) (n whole : ℕ) (survey : Survey) : Type 0 where
  pub common : IsRowGcd f n whole survey.common.value
  pub top : (k : ℕ) → k < n → unsigned_abs (f k) ≤ survey.top

-- the first n numbers are narrow
abbrev pub IsWithin : (ℕ → ℤ) → ℕ → Type 0
IsWithin f n = (k : ℕ) → k < n → IsNarrow (f k)

-- the first of n numbers that is wide
pub record IsFirstOver (f : ℕ → ℤ) (n : ℕ) (wide : WideNumber) : Type 0 where
  pub inside : wide.at < n
  pub value : wide.value ≡ f wide.at
  pub is_wide : 2 ^ 62 ≤ unsigned_abs wide.value
  pub before : IsWithin f wide.at

-- the greatest common divisor makes all numbers and the denominator narrow
pub record IsFoundDivisor (f : ℕ → ℤ) (n whole : ℕ) (found : Found) : Type 0 where
  pub common : IsRowGcd f n whole found.common.value
  pub low : found.common.value ≤ whole
  pub within : IsWithin (over f found.common.value) n
  pub den : found.den ≡ pos (whole / found.common.value)
  pub narrow : IsNarrow found.den

-- the first factors are the second ones times one whole number
abbrev pub IsTimes : Mix → Mix → Type 0
IsTimes mix low = (d : ℕ) × (0 < d) × (mix.p ≡ pos d *ℤ low.p) × (mix.q ≡ pos d *ℤ low.q)
