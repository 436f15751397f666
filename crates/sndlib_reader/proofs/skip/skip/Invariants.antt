use Rattle.std.proofs.Common.{◌≡◌, ◌≤◌, ◌+◌}
use Rattle.snd_tokens.specs.Terms.{left, size}
use Rattle.sndlib_reader.specs.Reading.{skipped_at}
use Rattle.sndlib_reader.proofs.skip.skip.Given as goal

abbrev pub invariant-loop-depth : goal.invariant-loop-depth
invariant-loop-depth l = (skipped_at l.depth (left l.text) ≡ skipped_at 0 (left l.fn.text)) × (l.depth + size (left l.text) ≤ size (left l.fn.text))

abbrev pub decreases-loop-depth : goal.decreases-loop-depth
decreases-loop-depth l = size (left l.text)
