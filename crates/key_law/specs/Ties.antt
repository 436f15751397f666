-- the ratio test over rows of which only the link entries are kept
use Rattle.std.specs.Prelude.{ℕ, ℤ, pos, ◌≡◌, ◌<◌, ◌≤◌, ◌+◌, ◌*ℤ◌, ◌<ℤ◌, ◌⊎◌}
use Rattle.simplex_law.specs.Terms.{dot, unit_vector}
use Rattle.key_law.specs.Keys.{IsSpread}

-- of two roles whose rows tie in value and link entries, which comes first: a row of the block, or else the key of the later demand
abbrev pub IsRoleFirst : ℕ → ℕ → ℕ → Type 0
IsRoleFirst links a b = (a < links) ⊎ ((links ≤ b) × (b < a))

-- numbers n over r come before o over s at the first that differs
abbrev pub AreLinksFirst : ℕ → (ℕ → ℤ) → ℤ → (ℕ → ℤ) → ℤ → Type 0
AreLinksFirst links n r o s = (at : ℕ) × (at < links) × ((k : ℕ) → k < at → n k *ℤ s ≡ o k *ℤ r) × ((n at *ℤ s) <ℤ (o at *ℤ r))

-- of two roles with equal values, a and the link entries n over r come before b and o over s: by link entries, or else by roles
abbrev pub IsTieFirst : ℕ → (ℕ → ℤ) → ℤ → (ℕ → ℤ) → ℤ → ℕ → ℕ → Type 0
IsTieFirst links n r o s a b = AreLinksFirst links n r o s ⊎ (((k : ℕ) → k < links → n k *ℤ s ≡ o k *ℤ r) × IsRoleFirst links a b)

-- role a, of the value x over p, comes before role b, of the value y over q: by values, or else by what decides ties
abbrev pub ComesFirst : ℕ → ℤ → ℤ → ℤ → ℤ → (ℕ → ℤ) → ℤ → (ℕ → ℤ) → ℤ → ℕ → ℕ → Type 0
ComesFirst links x p y q n r o s a b = ((x *ℤ q) <ℤ (y *ℤ p)) ⊎ ((x *ℤ q ≡ y *ℤ p) × IsTieFirst links n r o s a b)

-- the row of a role over den, its value, and its product with a, which is positive; nums and lowest are its link entries and its product
-- but for a positive factor, as in lowest terms
pub record IsRoleRow (links demands : ℕ) (keys : ℕ → ℕ → ℤ) (bound a : ℕ → ℤ) (role : ℕ) (value product : ℤ) (nums : ℕ → ℤ) (lowest : ℤ) (target : ℕ → ℤ)
    (u : ℕ → ℤ) (den : ℤ) (full : ℕ → ℤ) : Type 0 where
  pub inside : role < links + demands
  pub spreads : IsSpread links demands keys target u den full
  pub of_block : role < links → (d : ℕ) → d < demands → target d ≡ pos 0
  pub of_key : (d : ℕ) → d < demands → role ≡ links + d → (e : ℕ) → e < demands → target e ≡ unit_vector d e
  pub over : pos 0 <ℤ den
  pub value_is : value ≡ dot (links + demands) full bound
  pub product_is : product ≡ dot (links + demands) full a
  pub positive : pos 0 <ℤ product
  pub factor : ℤ
  pub times : ℤ
  pub factor_positive : pos 0 <ℤ factor
  pub times_positive : pos 0 <ℤ times
  pub numbers : (k : ℕ) → k < links → factor *ℤ u k ≡ times *ℤ nums k
  pub pivot : factor *ℤ product ≡ times *ℤ lowest
