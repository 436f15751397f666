use Rattle.std.proofs.Common.{IfSome, [], ap, inl, inr, refl, subst}
use Rattle.plan_terms.specs.Terms.{graph_in, case_of}
use Rattle.separator.{specs.Findings.IsFoundCutOf, proofs.Answering.of_none, proofs.Pooling.{pools_none, pools_since}}
use Rattle.separator.proofs.some_states.answer_set.Goals as goal

pub returns-in_err-cut-clause-pools : goal.returns-in_err-cut-clause-pools
returns-in_err-cut-clause-pools c = of_none (case_of c.args.instance.now) c.args.caps.now c.args.state.0 c.args.board.now

pub answer_cut-requires-clause-cut : goal.answer_cut-requires-clause-cut
answer_cut-requires-clause-cut c =
    let p = case_of c.args.instance.now in
    (subst (λ o. IfSome o (IsFoundCutOf (graph_in p c.args.state.0) p.demands c.args.caps.now)) c.in-Some.is c.in_ok-cut.ensures).of

pub returns-in_err-answer-in-Some-clause-pools : goal.returns-in_err-answer-in-Some-clause-pools
returns-in_err-answer-in-Some-clause-pools c =
    let p = case_of c.args.instance.now in
    c.answer_cut.ensures.pools c.args.caps.now (subst (λ o. IfSome o (IsFoundCutOf (graph_in p c.args.state.0) p.demands c.args.caps.now)) c.in-Some.is c.in_ok-cut.ensures)

pub returns-in_err-push-in-Some-clause-pools : goal.returns-in_err-push-in-Some-clause-pools
returns-in_err-push-in-Some-clause-pools c =
    let p = case_of c.args.instance.now in
    c.answer_cut.ensures.pools c.args.caps.now (subst (λ o. IfSome o (IsFoundCutOf (graph_in p c.args.state.0) p.demands c.args.caps.now)) c.in-Some.is c.in_ok-cut.ensures)

pub returns-in_ok-push-in-Some-clause-pools : goal.returns-in_ok-push-in-Some-clause-pools
returns-in_ok-push-in-Some-clause-pools c =
    let p = case_of c.args.instance.now in
    c.answer_cut.ensures.pools c.args.caps.now (subst (λ o. IfSome o (IsFoundCutOf (graph_in p c.args.state.0) p.demands c.args.caps.now)) c.in-Some.is c.in_ok-cut.ensures)

pub returns-in_ok-push-in-Some-clause-adds : goal.returns-in_ok-push-in-Some-clause-adds
returns-in_ok-push-in-Some-clause-adds c =
    let p = case_of c.args.instance.now in
    inr (
      c.in_ok-answer-in-Some.answer,
      c.in_ok-push-in-Some.ensures.ok,
      record {
        state = ap (λ st. st.0) c.in_ok-answer-in-Some.ensures.state;
        answer = c.in_ok-answer-in-Some.ensures.answer c.args.caps.now
            (subst (λ o. IfSome o (IsFoundCutOf (graph_in p c.args.state.0) p.demands c.args.caps.now)) c.in-Some.is c.in_ok-cut.ensures);
        one = c.in_ok-answer-in-Some.ensures.one;
        among = c.in_ok-answer-in-Some.ensures.among;
      },
    )

pub returns-in-None-clause-pools : goal.returns-in-None-clause-pools
returns-in-None-clause-pools c = of_none (case_of c.args.instance.now) c.args.caps.now c.args.state.0 c.args.board.now

pub returns-in-None-clause-adds : goal.returns-in-None-clause-adds
returns-in-None-clause-adds c = inl (refl, pools_since c.args.board.now c.args.board.now [] (pools_none c.args.board.now))
