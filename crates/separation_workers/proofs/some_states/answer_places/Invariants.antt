use Rattle.std.proofs.Common.{◌≡◌, []}
use Rattle.plan_terms.specs.Terms.{case_of}
use Rattle.separator.{specs.Separators.cuts_since, specs.inner.Working.{AreCutsAnswered, AreCutsBelow, ContinueTo}}
use Rattle.board_desk.specs.Turns.{caller_seen}
use Rattle.separation_workers.{specs.Callers.SeesOn, specs.inner.Rounds.AreFound}
use Rattle.separation_workers.proofs.some_states.answer_places.Given as goal

-- the states so far
abbrev pub invariant-loop-s : goal.invariant-loop-s
invariant-loop-s g l = record {
  goes : SeesOn l.fn.caller l.caller;
  below : AreCutsBelow (case_of l.round.instance) l.round.caps.now l.s (cuts_since (caller_seen l.fn.caller) (caller_seen l.caller));
  found : AreFound l.round l.places;
  cuts : AreCutsAnswered (case_of l.round.instance) l.round.caps.now l.s (caller_seen l.caller).history (cuts_since (caller_seen l.fn.caller) (caller_seen l.caller)) l.cuts;
  others : l.cuts ≡ [] → ContinueTo (case_of l.round.instance) l.round.caps.now l.from l.s l.fn.others l.others;
}
