use Rattle.std.proofs.Common.{◌≡◌, ◌≤◌, take}
use Rattle.text_layout.specs.Places.{characters}
use Rattle.text_layout.proofs.place.characters.Given as goal

-- the characters of the bytes so far
abbrev pub invariant-loop-b : goal.invariant-loop-b
invariant-loop-b l = (l.count ≡ characters (take l.b-index l.bytes)) × (l.count ≤ l.b-index)
