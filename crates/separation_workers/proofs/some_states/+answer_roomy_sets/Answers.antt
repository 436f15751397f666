use Rattle.std.proofs.Common.{◌≡◌, ◌+◌, [], ap, arith, length}
use Rattle.net_core.proofs.Library.{IfOk-weaker, nil_from_length}
use Rattle.plan_terms.specs.Terms.{case_of}
use Rattle.separator.specs.Separators.{cuts_answered}
use Rattle.separation_workers.proofs.Working.{answered_after_nothing, below_after_nothing, goes_on, pooled_nothing}
use Rattle.separation_workers.proofs.some_states.+answer_roomy_sets.Goals as goal

pub returns-then-level-lt-NO_ROOM-clause-goes : goal.returns-then-level-lt-NO_ROOM-clause-goes
returns-then-level-lt-NO_ROOM-clause-goes t g c =
    goes_on c.args.caller.now c.answer_sets.new.caller c.answer_roomy_sets.new.caller c.answer_sets.ensures.goes c.answer_roomy_sets.ensures.goes

pub returns-then-level-lt-NO_ROOM-clause-below : goal.returns-then-level-lt-NO_ROOM-clause-below
returns-then-level-lt-NO_ROOM-clause-below t g c =
    let n = length c.args.round.now.instance.states.now.listed + 1 in
    let a = c.args.caller.now in
    let b = c.answer_sets.new.caller in
    let empty : c.in_ok-cuts.cuts ≡ [] = nil_from_length c.in_ok-cuts.cuts (omega (arith, c.if-len-eq0.true, c.len.ensures)) in
    below_after_nothing (case_of c.args.round.now.instance) c.args.round.now.caps.now n n a b c.answer_roomy_sets.new.caller (omega arith)
    c.answer_sets.ensures.goes c.answer_roomy_sets.ensures.goes
    (pooled_nothing a b (cuts_answered c.in_ok-cuts.cuts) (ap cuts_answered empty) c.in_ok-cuts.ensures.cuts.among) c.answer_roomy_sets.ensures.below

pub returns-then-level-lt-NO_ROOM-clause-cuts : goal.returns-then-level-lt-NO_ROOM-clause-cuts
returns-then-level-lt-NO_ROOM-clause-cuts t g c =
    let n = length c.args.round.now.instance.states.now.listed + 1 in
    let a = c.args.caller.now in
    let b = c.answer_sets.new.caller in
    let empty : c.in_ok-cuts.cuts ≡ [] = nil_from_length c.in_ok-cuts.cuts (omega (arith, c.if-len-eq0.true, c.len.ensures)) in
    let none = pooled_nothing a b (cuts_answered c.in_ok-cuts.cuts) (ap cuts_answered empty) c.in_ok-cuts.ensures.cuts.among in
    IfOk-weaker c.answer_roomy_sets.result _ _
    (λ answers are. answered_after_nothing (case_of c.args.round.now.instance) c.args.round.now.caps.now n n a b c.answer_roomy_sets.new.caller answers (omega arith)
    c.answer_sets.ensures.goes c.answer_roomy_sets.ensures.goes none are)
    c.answer_roomy_sets.ensures.cuts
