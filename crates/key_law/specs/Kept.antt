-- what is kept of a basis with keys: in place of the whole inverse, that of the block
use Rattle.std.specs.Prelude.{ℕ, ℤ, pos, ◌≡◌, ◌<◌, ◌+◌, ◌*ℤ◌, ◌<ℤ◌}
use Rattle.checked_fraction.specs.Terms.{IsInLowestTerms}
use Rattle.simplex_law.specs.Terms.{dot, unit_vector, ColumnOf, HasTableau}
use Rattle.key_law.specs.Keys.{AreRoles, AreKeys, IsBlockRow, block}

-- the inverse of the block, row by row, and the prices of the links, all in lowest terms; the whole basis has a tableau
pub record IsKept {N : Type 0} (links demands : ℕ) (bound : ℕ → ℤ) (basis : ℕ → ColumnOf N) (place role : ℕ → ℕ)
    (kept : ℕ → ℕ → ℤ) (den : ℕ → ℤ) (prices : ℕ → ℤ) (prices_den : ℤ) : Type 0 where
  pub whole : HasTableau (links + demands) bound basis
  pub roles : AreRoles (links + demands) place role
  pub keys : AreKeys links demands basis place
  pub rows : (i j : ℕ) → i < links → j < links → dot links (kept i) (block links demands basis place j) ≡ den i *ℤ unit_vector i j
  pub over : (i : ℕ) → i < links → pos 0 <ℤ den i
  pub lowest : (i : ℕ) → i < links → IsInLowestTerms links (kept i) (den i)
  pub objective : IsBlockRow links demands basis place (λ j. (basis j).gain) prices prices_den
  pub above : pos 0 <ℤ prices_den
  pub prices_lowest : IsInLowestTerms links prices prices_den
