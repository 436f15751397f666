use Rattle.std.proofs.Common.{◌≡◌, ◌++◌, flat_map, take}
use Rattle.view_svg.specs.Markup.{escaped_byte}
use Rattle.view_svg.proofs.escape.put_bytes.Given as goal

-- the bytes so far
abbrev pub invariant-loop-byte : goal.invariant-loop-byte
invariant-loop-byte l = l.text ≡ l.fn.text ++ flat_map escaped_byte (take l.byte-index l.bytes)
