-- products of a column, divided by their common divisor with the pivot
use Rattle.std.specs.Prelude.{ℕ, ℤ, pos, ◌≡◌, ◌<◌, ◌*ℤ◌}
use Rattle.simplex_core.specs.declared.factors.Factors.{Factors}

-- p and q are the factors times one whole number
abbrev pub AreFactorsOf : ℤ → ℤ → Factors → Type 0
AreFactorsOf p q factors = (d : ℕ) × (0 < d) × (p ≡ pos d *ℤ factors.p) × (q ≡ pos d *ℤ factors.q)
