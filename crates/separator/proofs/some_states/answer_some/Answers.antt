use Rattle.std.proofs.Common.{◌≡◌, ◌+◌, ◌<◌, ◌∙◌, [], ap, arith, length}
use Rattle.net_core.proofs.Library.{IfOk-weaker, nil_from_length}
use Rattle.plan_terms.specs.Terms.{case_of}
use Rattle.separator.{specs.Separators.{cuts_after, cuts_answered}, proofs.SomeAnswers.cuts_are_some, proofs.SomeBoards.{among_after_nothing, below_after_nothing, pools_nothing}}
use Rattle.separator.proofs.some_states.answer_some.Goals as goal

pub ask_ring-requires-clause-net : goal.ask_ring-requires-clause-net
ask_ring-requires-clause-net c = ap (λ o. o.0) c.answer_roomy_sets.ensures.pools.pools.origin ∙ c.requires.net

pub ask_ring-requires-clause-listed : goal.ask_ring-requires-clause-listed
ask_ring-requires-clause-listed c = ap (λ o. o.1) c.answer_roomy_sets.ensures.pools.pools.origin ∙ c.requires.listed

pub returns-then-len-eq0-clause-pools : goal.returns-then-len-eq0-clause-pools
returns-then-len-eq0-clause-pools c =
    let n = length c.args.instance.now.states.now.listed + 1 in
    let a = c.args.board.now in
    let b = c.answer_roomy_sets.new.board in
    let none : c.in_ok-cuts.cuts ≡ [] = nil_from_length c.in_ok-cuts.cuts (omega (arith, c.if-len-eq0.true, c.len.ensures)) in
    below_after_nothing (case_of c.args.instance.now) c.args.caps.now n n a b c.ask_ring.new.board (omega arith)
    (pools_nothing a b (cuts_answered c.in_ok-cuts.cuts) (ap cuts_answered none) c.in_ok-cuts.ensures.cuts.among c.answer_roomy_sets.ensures.pools.pools) c.ask_ring.ensures.pools

pub returns-then-len-eq0-clause-among : goal.returns-then-len-eq0-clause-among
returns-then-len-eq0-clause-among c =
    let a = c.args.board.now in
    let b = c.answer_roomy_sets.new.board in
    let none : c.in_ok-cuts.cuts ≡ [] = nil_from_length c.in_ok-cuts.cuts (omega (arith, c.if-len-eq0.true, c.len.ensures)) in
    let pools = pools_nothing a b (cuts_answered c.in_ok-cuts.cuts) (ap cuts_answered none) c.in_ok-cuts.ensures.cuts.among c.answer_roomy_sets.ensures.pools.pools in
    IfOk-weaker c.ask_ring.result _ _
    (λ answers among. among_after_nothing a b c.ask_ring.new.board (cuts_answered answers) pools c.ask_ring.ensures.pools.pools among)
    c.ask_ring.ensures.among

pub returns-clause-answers : goal.returns-clause-answers
returns-clause-answers c =
    let a = c.args.board.now in
    let b = c.answer_roomy_sets.new.board in
    let some : 0 < length c.in_ok-cuts.cuts = omega (arith, c.if-len-eq0.false, c.len.ensures) in
    cuts_are_some (case_of c.args.instance.now) c.args.caps.now b.entries (cuts_after a.entries b.entries) c.in_ok-cuts.cuts c.in_ok-cuts.ensures.cuts some

pub returns-clause-among : goal.returns-clause-among
returns-clause-among c = c.in_ok-cuts.ensures.cuts.among
