-- rows of whole numbers over one positive denominator
use Rattle.std.{specs.Prelude.{ℕ, ℤ, List, pos, ◌*ℤ◌, ◌<ℤ◌, ◌≡◌, ◌<◌, ◌^◌, get_or, unsigned_abs}, specs.Int.◌∣◌}

-- number k of a list, 0 after its end
abbrev pub num : List ℤ → ℕ → ℤ
num nums k = get_or nums k (pos 0)

-- below 2 ^ 62 in absolute value
abbrev pub IsNarrow : ℤ → Type 0
IsNarrow a = unsigned_abs a < 2 ^ 62

-- n numbers over den are in lowest terms: 1 alone divides den and each of them
abbrev pub IsInLowestTerms : ℕ → (ℕ → ℤ) → ℤ → Type 0
IsInLowestTerms n nums den = (d : ℕ) → d ∣ unsigned_abs den → ((k : ℕ) → k < n → d ∣ unsigned_abs (nums k)) → d ≡ 1

-- the n fractions raw over whole as nums over den, in lowest terms: where whole isn't 0, there is one such row
pub record IsReduced (n : ℕ) (raw : ℕ → ℤ) (whole : ℤ) (nums : ℕ → ℤ) (den : ℤ) : Type 0 where
  pub positive : pos 0 <ℤ den
  pub same : (k : ℕ) → k < n → nums k *ℤ whole ≡ raw k *ℤ den
  pub lowest : IsInLowestTerms n nums den
