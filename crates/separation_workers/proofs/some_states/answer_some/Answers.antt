use Rattle.std.proofs.Common.{◌≡◌, ◌+◌, ◌<◌, [], ap, arith, length}
use Rattle.net_core.proofs.Library.{IfOk-weaker, nil_from_length}
use Rattle.plan_terms.specs.Terms.{case_of}
use Rattle.board_desk.specs.Turns.{caller_seen}
use Rattle.separator.{specs.Separators.cuts_answered, proofs.SomeAnswers.cuts_are_some}
use Rattle.separation_workers.proofs.Working.{among_after_nothing, below_after_nothing, cuts_pooled, goes_on, pooled_nothing, still_in}
use Rattle.separation_workers.proofs.some_states.answer_some.Goals as goal

pub ask_ring-requires : goal.ask_ring-requires
ask_ring-requires g c = record { caller = still_in c.args.round.now c.args.caller.now c.answer_roomy_sets.new.caller c.requires.caller c.answer_roomy_sets.ensures.goes }

pub returns-then-len-eq0-clause-goes : goal.returns-then-len-eq0-clause-goes
returns-then-len-eq0-clause-goes g c = goes_on c.args.caller.now c.answer_roomy_sets.new.caller c.ask_ring.new.caller c.answer_roomy_sets.ensures.goes c.ask_ring.ensures.goes

pub returns-then-len-eq0-clause-below : goal.returns-then-len-eq0-clause-below
returns-then-len-eq0-clause-below g c =
    let n = length c.args.round.now.instance.states.now.listed + 1 in
    let a = c.args.caller.now in
    let b = c.answer_roomy_sets.new.caller in
    let empty : c.in_ok-cuts.cuts ≡ [] = nil_from_length c.in_ok-cuts.cuts (omega (arith, c.if-len-eq0.true, c.len.ensures)) in
    below_after_nothing (case_of c.args.round.now.instance) c.args.round.now.caps.now n n a b c.ask_ring.new.caller (omega arith) c.answer_roomy_sets.ensures.goes c.ask_ring.ensures.goes
    (pooled_nothing a b (cuts_answered c.in_ok-cuts.cuts) (ap cuts_answered empty) c.in_ok-cuts.ensures.cuts.among) c.ask_ring.ensures.below

pub returns-then-len-eq0-clause-among : goal.returns-then-len-eq0-clause-among
returns-then-len-eq0-clause-among g c =
    let a = c.args.caller.now in
    let b = c.answer_roomy_sets.new.caller in
    let empty : c.in_ok-cuts.cuts ≡ [] = nil_from_length c.in_ok-cuts.cuts (omega (arith, c.if-len-eq0.true, c.len.ensures)) in
    let none = pooled_nothing a b (cuts_answered c.in_ok-cuts.cuts) (ap cuts_answered empty) c.in_ok-cuts.ensures.cuts.among in
    IfOk-weaker c.ask_ring.result _ _
    (λ answers among. among_after_nothing a b c.ask_ring.new.caller (cuts_answered answers) c.answer_roomy_sets.ensures.goes c.ask_ring.ensures.goes none among)
    c.ask_ring.ensures.among

pub returns-clause-answers : goal.returns-clause-answers
returns-clause-answers g c =
    let some : 0 < length c.in_ok-cuts.cuts = omega (arith, c.if-len-eq0.false, c.len.ensures) in
    cuts_are_some (case_of c.args.round.now.instance) c.args.round.now.caps.now (caller_seen c.answer_roomy_sets.new.caller).history (cuts_pooled c.args.caller.now c.answer_roomy_sets.new.caller) c.in_ok-cuts.cuts
    c.in_ok-cuts.ensures.cuts some

pub returns-clause-among : goal.returns-clause-among
returns-clause-among g c = c.in_ok-cuts.ensures.cuts.among
