use Rattle.std.proofs.Common.{◌≢◌, ℕ, ◌<◌, get_or}
use Rattle.outside_io.specs.declared.memory.MemFile.{MemFile}
use Rattle.outside_io.proofs.memory.have_different_names.Given as goal

-- the files below i have different names, and none below j has the name of the one at i
abbrev pub invariant-loop-j : goal.invariant-loop-j
invariant-loop-j l =
    ((p q : ℕ) (d : MemFile) → p < q → q < l.i → (get_or l.files p d).name ≢ (get_or l.files q d).name)
    × ((p : ℕ) (d : MemFile) → p < l.j → (get_or l.files p d).name ≢ (get_or l.files l.i d).name)

-- the files below i have different names
abbrev pub invariant-loop-i : goal.invariant-loop-i
invariant-loop-i l = (p q : ℕ) (d : MemFile) → p < q → q < l.i → (get_or l.files p d).name ≢ (get_or l.files q d).name
