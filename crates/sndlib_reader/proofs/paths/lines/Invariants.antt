use Rattle.std.proofs.Common.{◌≡◌}
use Rattle.snd_tokens.specs.Terms.{left, size}
use Rattle.text_kit.specs.Terms.{each_at}
use Rattle.sndlib_reader.specs.Reading.{path_line_at}
use Rattle.sndlib_reader.proofs.paths.lines.Given as goal

abbrev pub invariant-loop : goal.invariant-loop
invariant-loop l = each_at (path_line_at l.links l.demands) (left l.text) ≡ each_at (path_line_at l.links l.demands) (left l.initial.text)

abbrev pub decreases-loop : goal.decreases-loop
decreases-loop l = size (left l.text)
