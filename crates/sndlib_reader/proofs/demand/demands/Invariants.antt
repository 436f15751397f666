use Rattle.std.proofs.Common.{◌≡◌, ◌<◌, ◌^◌, [], map}
use Rattle.snd_tokens.specs.Terms.{left, size}
use Rattle.net_core.specs.Terms.{total_need}
use Rattle.sndlib_reader.specs.Reading.{native_demands_at}
use Rattle.sndlib_reader.proofs.demand.demands.Given as goal

abbrev pub invariant-loop-names : goal.invariant-loop-names
invariant-loop-names l = (native_demands_at l.places l.nodes l.all (left l.text) ≡ native_demands_at l.places l.nodes [] (left l.fn.text)) × (l.names ≡ map (λ d. d.name) l.all) × (l.sum ≡ total_need l.all) × (l.sum < 2 ^ 44)

abbrev pub decreases-loop-names : goal.decreases-loop-names
decreases-loop-names l = size (left l.text)
