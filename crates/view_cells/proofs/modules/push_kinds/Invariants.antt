use Rattle.std.proofs.Common.{◌≡◌, ◌++◌, take}
use Rattle.view_cells.specs.ModuleWords.{kinds_words}
use Rattle.view_cells.proofs.modules.push_kinds.Given as goal

-- the kinds so far
abbrev pub invariant-loop-i : goal.invariant-loop-i
invariant-loop-i l = l.words ≡ l.fn.words ++ kinds_words l.places (take l.i l.modules) (take l.i l.counts)
