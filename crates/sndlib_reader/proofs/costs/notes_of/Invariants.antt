use Rattle.std.proofs.Common.{◌≡◌, take}
use Rattle.sndlib_reader.specs.Spelling.{notes_of}
use Rattle.sndlib_reader.proofs.costs.notes_of.Given as goal

abbrev pub invariant-loop-costed : goal.invariant-loop-costed
invariant-loop-costed l = l.notes ≡ notes_of (take l.costed-index l.links)
