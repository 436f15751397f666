-- what the functions of a reading answer to each other
use Rattle.std.specs.Prelude.{◌≡◌, ℕ, List}
use Rattle.outside_io.specs.declared.status.Status.{Status}

-- this status with this text
abbrev pub Says : Status → List ℕ → Status → List ℕ → Type 0
Says status text s t = (s ≡ status) × (t ≡ text)
