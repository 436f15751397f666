use Rattle.std.proofs.Common.{◌≡◌, take}
use Rattle.flow_mending.specs.inner.Counting.{needs_over}
use Rattle.flow_mending.proofs.routing_form.all_needs.Given as goal

-- what the demands so far need
abbrev pub invariant-loop-d : goal.invariant-loop-d
invariant-loop-d l = l.needs ≡ needs_over l.scale l.den (take l.d-index l.demands)
