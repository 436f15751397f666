use Rattle.std.proofs.Common.{IfSome, ap, inl, inr, refl, subst, sym}
use Rattle.plan_terms.specs.Terms.{graph_in, case_of}
use Rattle.separator.specs.Findings.{IsFoundCutOf}
use Rattle.separation_workers.proofs.Working.{none_of_state, pooled_none, stays}
use Rattle.separation_workers.proofs.some_states.answer_set.Goals as goal

pub returns-in_err-cut-clause-goes : goal.returns-in_err-cut-clause-goes
returns-in_err-cut-clause-goes g c = stays c.args.round.now c.args.caller.now c.requires.caller

pub returns-in_err-cut-clause-cuts : goal.returns-in_err-cut-clause-cuts
returns-in_err-cut-clause-cuts g c = none_of_state (case_of c.args.round.now.instance) c.args.round.now.caps.now c.args.state.0 c.args.caller.now

pub answer_cut-requires-clause-found : goal.answer_cut-requires-clause-found
answer_cut-requires-clause-found g c =
    let p = case_of c.args.round.now.instance in
    subst (λ o. IfSome o (IsFoundCutOf (graph_in p c.args.state.0) p.demands c.args.round.now.caps.now)) c.in-Some.is c.in_ok-cut.ensures

pub returns-in_ok-push-in-Some-clause-adds : goal.returns-in_ok-push-in-Some-clause-adds
returns-in_ok-push-in-Some-clause-adds g c =
    inr (
      c.in_ok-answer-in-Some.answer,
      c.in_ok-push-in-Some.ensures.ok,
      record {
        state = ap (λ st. st.0) c.in_ok-answer-in-Some.ensures.state;
        answer = c.in_ok-answer-in-Some.ensures.answer;
        one = c.in_ok-answer-in-Some.ensures.one;
        among = c.in_ok-answer-in-Some.ensures.among;
      },
    )

pub returns-in-None-clause-goes : goal.returns-in-None-clause-goes
returns-in-None-clause-goes g c = stays c.args.round.now c.args.caller.now c.requires.caller

pub returns-in-None-clause-cuts : goal.returns-in-None-clause-cuts
returns-in-None-clause-cuts g c = none_of_state (case_of c.args.round.now.instance) c.args.round.now.caps.now c.args.state.0 c.args.caller.now

pub returns-in-None-clause-adds : goal.returns-in-None-clause-adds
returns-in-None-clause-adds g c = inl (refl, sym (pooled_none c.args.caller.now))
