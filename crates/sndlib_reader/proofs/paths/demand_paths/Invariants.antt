use Rattle.std.proofs.Common.{◌≡◌}
use Rattle.snd_tokens.specs.Terms.{left, size}
use Rattle.text_kit.specs.Terms.{each_at}
use Rattle.sndlib_reader.specs.Reading.{native_path_at}
use Rattle.sndlib_reader.proofs.paths.demand_paths.Given as goal

abbrev pub invariant-loop : goal.invariant-loop
invariant-loop l = each_at (native_path_at l.links) (left l.text) ≡ each_at (native_path_at l.links) (left l.initial.text)

abbrev pub decreases-loop : goal.decreases-loop
decreases-loop l = size (left l.text)
