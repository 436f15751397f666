-- capacities with room, one after another
use Rattle.std.proofs.Common.{ℕ, ◌*◌, ◌<◌, ◌≤◌, List, slice_index}

-- each number is at least that of its place
abbrev pub AreRoomy : List ℕ → ℕ → ℕ → List ℕ → Type 0
AreRoomy caps scale k nums = (e : ℕ) → e < k → slice_index caps e ≤ slice_index nums e * scale
