use Rattle.std.proofs.Common.{Contains, [], subst}
use Rattle.plan_terms.specs.Terms.{graph_in, case_of}
use Rattle.separator.specs.Findings.{IsFinding}
use Rattle.separation_workers.proofs.Working.{none_among, none_of_state, stays}
use Rattle.separation_workers.proofs.workers.answer_state.Goals as goal

pub returns-in-Wide-clause-goes : goal.returns-in-Wide-clause-goes
returns-in-Wide-clause-goes g c = stays c.args.round.now c.args.caller.now c.requires.caller

pub returns-in-Routed-clause-goes : goal.returns-in-Routed-clause-goes
returns-in-Routed-clause-goes g c = stays c.args.round.now c.args.caller.now c.requires.caller

pub returns-in-Routed-clause-cuts : goal.returns-in-Routed-clause-cuts
returns-in-Routed-clause-cuts g c = none_of_state (case_of c.args.round.now.instance) c.args.round.now.caps.now c.args.state.0 c.args.caller.now

pub returns-in-Wide-clause-cuts : goal.returns-in-Wide-clause-cuts
returns-in-Wide-clause-cuts g c = none_of_state (case_of c.args.round.now.instance) c.args.round.now.caps.now c.args.state.0 c.args.caller.now

pub returns-in-Routed-clause-answer : goal.returns-in-Routed-clause-answer
returns-in-Routed-clause-answer g c =
    let p = case_of c.args.round.now.instance in
    subst (IsFinding (graph_in p c.args.state.0) p.demands c.args.round.now.caps.now) c.in-Routed.is c.requires.found

pub returns-in-Routed-clause-among : goal.returns-in-Routed-clause-among
returns-in-Routed-clause-among g c = none_among c.args.caller.now (Contains [])

pub returns-in-Wide-clause-answer : goal.returns-in-Wide-clause-answer
returns-in-Wide-clause-answer g c =
    let p = case_of c.args.round.now.instance in
    subst (IsFinding (graph_in p c.args.state.0) p.demands c.args.round.now.caps.now) c.in-Wide.is c.requires.found

pub returns-in-Wide-clause-among : goal.returns-in-Wide-clause-among
returns-in-Wide-clause-among g c = none_among c.args.caller.now (Contains [])

pub answer_cut-requires-clause-found : goal.answer_cut-requires-clause-found
answer_cut-requires-clause-found g c =
    let p = case_of c.args.round.now.instance in
    subst (IsFinding (graph_in p c.args.state.0) p.demands c.args.round.now.caps.now) c.in-Violated.is c.requires.found
