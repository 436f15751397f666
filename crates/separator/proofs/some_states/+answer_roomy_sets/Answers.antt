use Rattle.std.proofs.Common.{◌≡◌, ◌+◌, [], ap, arith, length}
use Rattle.net_core.proofs.Library.{IfOk-weaker, nil_from_length}
use Rattle.plan_terms.specs.Terms.{case_of}
use Rattle.separator.{specs.Separators.cuts_answered, proofs.SomeBoards.{answered_after_nothing, below_after_nothing, pools_nothing}}
use Rattle.separator.proofs.some_states.+answer_roomy_sets.Goals as goal

pub returns-then-level-lt-NO_ROOM-clause-pools : goal.returns-then-level-lt-NO_ROOM-clause-pools
returns-then-level-lt-NO_ROOM-clause-pools t c =
    let n = length c.args.instance.now.states.now.listed + 1 in
    let a = c.args.board.now in
    let b = c.answer_sets.new.board in
    let none : c.in_ok-cuts.cuts ≡ [] = nil_from_length c.in_ok-cuts.cuts (omega (arith, c.if-len-eq0.true, c.len.ensures)) in
    below_after_nothing (case_of c.args.instance.now) c.args.caps.now n n a b c.answer_roomy_sets.new.board (omega arith)
    (pools_nothing a b (cuts_answered c.in_ok-cuts.cuts) (ap cuts_answered none) c.in_ok-cuts.ensures.cuts.among c.answer_sets.ensures.pools.pools)
    c.answer_roomy_sets.ensures.pools

pub returns-then-level-lt-NO_ROOM-clause-cuts : goal.returns-then-level-lt-NO_ROOM-clause-cuts
returns-then-level-lt-NO_ROOM-clause-cuts t c =
    let n = length c.args.instance.now.states.now.listed + 1 in
    let a = c.args.board.now in
    let b = c.answer_sets.new.board in
    let none : c.in_ok-cuts.cuts ≡ [] = nil_from_length c.in_ok-cuts.cuts (omega (arith, c.if-len-eq0.true, c.len.ensures)) in
    let pools = pools_nothing a b (cuts_answered c.in_ok-cuts.cuts) (ap cuts_answered none) c.in_ok-cuts.ensures.cuts.among c.answer_sets.ensures.pools.pools in
    IfOk-weaker c.answer_roomy_sets.result _ _
    (λ answers are. answered_after_nothing (case_of c.args.instance.now) c.args.caps.now n a b c.answer_roomy_sets.new.board answers pools
    c.answer_roomy_sets.ensures.pools.pools are)
    c.answer_roomy_sets.ensures.cuts
