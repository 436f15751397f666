use Rattle.std.proofs.Common.{◌≡◌, ℕ, ◌<◌, get_or, length}
use Rattle.path_split.specs.inner.Legs.{IsStartPlace}
use Rattle.path_split.proofs.star.starts_of.Given as goal

abbrev pub invariant-loop-x : goal.invariant-loop-x
invariant-loop-x l = (length l.starts.items ≡ l.x) × ((y : ℕ) → y < l.x → IsStartPlace l.legs y (get_or l.starts.items y 0))
