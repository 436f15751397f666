use Rattle.std.proofs.Common.{◌≡◌, ◌≤◌, ◌-◌, []}
use Rattle.plan_terms.specs.Terms.{case_of}
use Rattle.separator.specs.inner.Working.{ContinueTo}
use Rattle.separation_workers.{specs.Callers.SeesOn, proofs.Working.cuts_pooled}
use Rattle.separation_workers.proofs.some_states.ask_until_cuts.Given as goal

-- the states that are left
abbrev pub decreases-loop-at : goal.decreases-loop-at
decreases-loop-at g l = l.to - l.at

-- no cut is found so far
abbrev pub invariant-loop-at : goal.invariant-loop-at
invariant-loop-at g l = record {
  goes : SeesOn l.fn.caller l.caller;
  none : cuts_pooled l.fn.caller l.caller ≡ [];
  after : l.from ≤ l.at;
  within : l.at ≤ l.to;
  others : ContinueTo (case_of l.round.instance) l.round.caps.now l.from l.at l.fn.others l.others;
}
