-- what reading leaves of a shelf
use Rattle.std.specs.Prelude.{◌≡◌, ℕ, ◌≤◌, Option}
use Rattle.outside_io.specs.Outside.{Files, Rose}

-- what reading leaves of a shelf: its files as they were, and a count of faults that hasn't fallen, and that has risen where reading failed
pub record KeepsShelf {S : Type 0} (files : S → Option Files) (faults : S → ℕ) (failed : Type 0) (old new : S) : Type 0 where
  pub same : files new ≡ files old
  pub later : faults old ≤ faults new
  pub counted : failed → Rose (faults old) (faults new)
