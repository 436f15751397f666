use Rattle.std.proofs.Common.{◌≡◌, ◌<◌, ℕ, Some, slice_get, ◌*ℤ◌, ◌<ℤ◌}
use Rattle.checked_fraction.specs.Terms.{num}
use Rattle.simplex_law.specs.Terms.{dot}
use Rattle.simplex_core.specs.Terms.{entry_of}
use Rattle.exact_tests.{specs.Listed.entries_of, specs.declared.packing.Shape.Shape}
use Rattle.exact_tests.proofs.packing.ProgramColumns.price.Given as goal

-- none so far gains
abbrev pub invariant-loop-i : goal.invariant-loop-i
invariant-loop-i l = (k : ℕ) (x : Shape) → k < l.i → slice_get l.shapes k ≡ Some x → dot 3 (num l.duals.nums) (entry_of (entries_of x.takes.first x.takes.second x.takes.third)) <ℤ (l.duals.den *ℤ x.gain) → ⊥
