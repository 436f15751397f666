use Rattle.std.proofs.Common.{◌≡◌, [], ap, arith, length, subst, sym, ◌∙◌}
use Rattle.net_core.proofs.Library.{nil_from_length}
use Rattle.plan_terms.specs.Terms.{case_of}
use Rattle.separator.{specs.Separators.cuts_answered, specs.inner.Working.ContinueTo}
use Rattle.separation_workers.proofs.Working.{answered_after_nothing, answered_none, below_after_nothing, goes_on, nothing_below, pooled_after_nothing, pooled_none, pooled_nothing, stays, still_in}
use Rattle.separation_workers.proofs.some_states.ask_until_cuts.Goals as goal

pub loop-at-init : goal.loop-at-init
loop-at-init g c =
    let a = c.args.caller.now in
    record {
      goes = stays c.args.round.now a c.requires.caller;
      none = sym (pooled_none a);
      after = omega arith;
      within = c.requires.from;
      others = λ m are. are;
    }

pub answer_batch-requires-clause-caller : goal.answer_batch-requires-clause-caller
answer_batch-requires-clause-caller g c = still_in c.args.round.now c.args.caller.now c.loop-at.caller c.requires.caller c.loop-at.invariant.goes

pub returns-in_err-cuts-clause-goes : goal.returns-in_err-cuts-clause-goes
returns-in_err-cuts-clause-goes g c = goes_on c.args.caller.now c.loop-at.caller c.answer_batch.new.caller c.loop-at.invariant.goes c.answer_batch.ensures.goes

pub returns-in_err-cuts-clause-below : goal.returns-in_err-cuts-clause-below
returns-in_err-cuts-clause-below g c =
    below_after_nothing (case_of c.args.round.now.instance) c.args.round.now.caps.now _ c.args.to c.args.caller.now c.loop-at.caller c.answer_batch.new.caller
    (omega arith) c.loop-at.invariant.goes c.answer_batch.ensures.goes c.loop-at.invariant.none c.answer_batch.ensures.below

pub returns-then-len-gt0-clause-goes : goal.returns-then-len-gt0-clause-goes
returns-then-len-gt0-clause-goes g c = goes_on c.args.caller.now c.loop-at.caller c.answer_batch.new.caller c.loop-at.invariant.goes c.answer_batch.ensures.goes

pub returns-then-len-gt0-clause-below : goal.returns-then-len-gt0-clause-below
returns-then-len-gt0-clause-below g c =
    below_after_nothing (case_of c.args.round.now.instance) c.args.round.now.caps.now _ c.args.to c.args.caller.now c.loop-at.caller c.answer_batch.new.caller
    (omega arith) c.loop-at.invariant.goes c.answer_batch.ensures.goes c.loop-at.invariant.none c.answer_batch.ensures.below

pub returns-then-len-gt0-clause-cuts : goal.returns-then-len-gt0-clause-cuts
returns-then-len-gt0-clause-cuts g c =
    answered_after_nothing (case_of c.args.round.now.instance) c.args.round.now.caps.now _ c.args.to c.args.caller.now c.loop-at.caller c.answer_batch.new.caller c.in_ok-cuts.cuts
    (omega arith) c.loop-at.invariant.goes c.answer_batch.ensures.goes c.loop-at.invariant.none c.in_ok-cuts.ensures.cuts

pub returns-then-len-gt0-clause-others : goal.returns-then-len-gt0-clause-others
returns-then-len-gt0-clause-others g c none = absurd (let few = ap length none in omega (arith, few, c.if-len-gt0.true, c.len.ensures))

pub loop-at-preserved : goal.loop-at-preserved
loop-at-preserved g c =
    let a = c.args.caller.now in
    let b = c.loop-at.caller in
    let now = c.answer_batch.new.caller in
    let so_far = c.loop-at.invariant in
    let empty : c.in_ok-cuts.cuts ≡ [] = nil_from_length c.in_ok-cuts.cuts (omega (arith, c.if-len-gt0.false, c.len.ensures)) in
    record {
      goes = goes_on a b now so_far.goes c.answer_batch.ensures.goes;
      none = sym (pooled_after_nothing a b now so_far.goes c.answer_batch.ensures.goes so_far.none)
          ∙ pooled_nothing b now (cuts_answered c.in_ok-cuts.cuts) (ap cuts_answered empty) c.in_ok-cuts.ensures.cuts.among;
      after = omega arith;
      within = omega arith;
      others = λ m are. c.in_ok-cuts.ensures.others empty m (so_far.others m are);
    }

pub returns-clause-below : goal.returns-clause-below
returns-clause-below g c = nothing_below (case_of c.args.round.now.instance) c.args.round.now.caps.now c.args.to c.args.caller.now c.loop-at.caller c.loop-at.invariant.none

pub returns-clause-cuts : goal.returns-clause-cuts
returns-clause-cuts g c =
    answered_none (case_of c.args.round.now.instance) c.args.round.now.caps.now c.args.to c.args.caller.now c.loop-at.caller c.new.result c.loop-at.invariant.none c.new.ensures

pub returns-clause-others : goal.returns-clause-others
returns-clause-others g c none =
    let p = case_of c.args.round.now.instance in
    subst (λ k. ContinueTo p c.args.round.now.caps.now c.args.from k c.args.others.now c.loop-at.others) (let end : c.loop-at.at ≡ c.args.to = omega arith in end) c.loop-at.invariant.others
