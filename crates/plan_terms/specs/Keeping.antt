-- what a state keeps of lengths
use Rattle.std.{specs.Prelude.{◌≡◌, ◌≢◌, ℕ, ◌*◌, ◌<◌, List, length, slice_index}, specs.Int.◌∣◌}
use Rattle.net_core.specs.Terms.{Graph, Survives}

-- no surviving link has a positive length
abbrev pub AreZero : Graph → List ℕ → Type 0
AreZero g lengths = (e : ℕ) → Survives g e → slice_index lengths e ≡ 0

-- What the state keeps of lengths: those of the surviving links, over their greatest common divisor, and 0 elsewhere.
pub record Keeps (g : Graph) (lengths kept : List ℕ) : Type 0 where
  pub count : length kept ≡ length lengths
  pub common : ℕ
  pub positive : 0 < common
  pub divided : (e : ℕ) → Survives g e → slice_index kept e * common ≡ slice_index lengths e
  pub greatest : (d : ℕ) → ((e : ℕ) → Survives g e → d ∣ slice_index lengths e) → d ∣ common
  pub zero : (e : ℕ) → slice_index kept e ≢ 0 → Survives g e
