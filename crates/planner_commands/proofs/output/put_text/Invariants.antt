use Rattle.std.proofs.Common.{◌≤◌, ◌-◌, length, take}
use Rattle.outside_io.specs.Outside.{Takes}
use Rattle.planner_commands.proofs.output.put_text.Given as goal

-- the text so far has been taken
abbrev pub invariant-loop-at : goal.invariant-loop-at
invariant-loop-at g l = record {
  within : l.at ≤ length l.text;
  taken : Takes (g.K.Sink.taken l.fn.out) (g.K.Sink.taken l.out) (take l.at l.text);
  later : g.K.Sink.faults l.fn.out ≤ g.K.Sink.faults l.out;
}

abbrev pub decreases-loop-at : goal.decreases-loop-at
decreases-loop-at g l = length l.text - l.at
