-- how lengths become those that a state keeps
use Rattle.std.specs.Prelude.{◌≡◌, ◌≢◌, ℕ, ◌/◌, ◌<◌, List, length, slice_index}
use Rattle.plan_terms.specs.Terms.{Graph, Survives}

-- the lengths of the surviving links, and 0 elsewhere
pub record AreMasked (g : Graph) (lengths masked : List ℕ) : Type 0 where
  pub count : length masked ≡ length lengths
  pub same : (e : ℕ) → Survives g e → slice_index masked e ≡ slice_index lengths e
  pub zero : (e : ℕ) → slice_index masked e ≢ 0 → Survives g e

-- each length over a divisor
pub record AreDivided (common : ℕ) (lengths divided : List ℕ) : Type 0 where
  pub count : length divided ≡ length lengths
  pub each : (e : ℕ) → e < length lengths → slice_index divided e ≡ slice_index lengths e / common
