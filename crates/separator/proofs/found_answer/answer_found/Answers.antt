use Rattle.std.proofs.Common.{[], subst}
use Rattle.net_core.proofs.Library.{IfOk-weaker}
use Rattle.plan_terms.specs.Terms.{graph_in, case_of}
use Rattle.separator.{specs.Findings.IsFinding, proofs.Answering.{none_among, of_none}}
use Rattle.separator.proofs.found_answer.answer_found.Goals as goal

pub answer_cut-requires-clause-cut : goal.answer_cut-requires-clause-cut
answer_cut-requires-clause-cut c =
    let p = case_of c.args.instance.now in
    (subst (IsFinding (graph_in p c.args.state.0) p.demands c.args.caps.now) c.in-Violated.is c.requires.found).of

pub returns-in-Violated-clause-pools : goal.returns-in-Violated-clause-pools
returns-in-Violated-clause-pools c =
    let p = case_of c.args.instance.now in
    c.answer_cut.ensures.pools c.args.caps.now (subst (IsFinding (graph_in p c.args.state.0) p.demands c.args.caps.now) c.in-Violated.is c.requires.found)

pub returns-in-Violated-clause-answer : goal.returns-in-Violated-clause-answer
returns-in-Violated-clause-answer c =
    let p = case_of c.args.instance.now in
    IfOk-weaker c.answer_cut.result _ _
    (λ a told. told c.args.caps.now (subst (IsFinding (graph_in p c.args.state.0) p.demands c.args.caps.now) c.in-Violated.is c.requires.found))
    c.answer_cut.ensures.answer

pub returns-in-Routed-clause-pools : goal.returns-in-Routed-clause-pools
returns-in-Routed-clause-pools c = of_none (case_of c.args.instance.now) c.args.caps.now c.args.state.0 c.args.board.now

pub returns-in-Routed-clause-answer : goal.returns-in-Routed-clause-answer
returns-in-Routed-clause-answer c =
    let p = case_of c.args.instance.now in
    subst (IsFinding (graph_in p c.args.state.0) p.demands c.args.caps.now) c.in-Routed.is c.requires.found

pub returns-in-Routed-clause-among : goal.returns-in-Routed-clause-among
returns-in-Routed-clause-among c = none_among c.args.board.now []

pub returns-in-Wide-clause-pools : goal.returns-in-Wide-clause-pools
returns-in-Wide-clause-pools c = of_none (case_of c.args.instance.now) c.args.caps.now c.args.state.0 c.args.board.now

pub returns-in-Wide-clause-answer : goal.returns-in-Wide-clause-answer
returns-in-Wide-clause-answer c =
    let p = case_of c.args.instance.now in
    subst (IsFinding (graph_in p c.args.state.0) p.demands c.args.caps.now) c.in-Wide.is c.requires.found

pub returns-in-Wide-clause-among : goal.returns-in-Wide-clause-among
returns-in-Wide-clause-among c = none_among c.args.board.now []
