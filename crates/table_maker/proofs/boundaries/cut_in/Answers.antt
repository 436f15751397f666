use Rattle.std.proofs.Common.{List, ℕ, Option, Some, subst}
use Rattle.plan_terms.specs.Terms.{Graph, case_of, graph_in, graph_of}
use Rattle.metric_cut.{specs.Cuts.MayKeepCut, specs.declared.cut.Cut.Cut}
use Rattle.table_maker.proofs.Parting.{cut_is}
use Rattle.table_maker.proofs.boundaries.cut_in.Goals as goal

pub returns-in_ok-line-in-Some : goal.returns-in_ok-line-in-Some
returns-in_ok-line-in-Some c =
    let p = case_of c.args.instance.now in
    let made = c.in-Some.cut in
    let given = c.in_ok-copy.field-0 in
    let found = subst (λ (o : Option Cut). MayKeepCut (graph_of c.in_state-graph.result) given o) c.in-Some.is c.in_ok-cut.ensures.kept in
    let here = subst (λ (g : Graph). MayKeepCut g given (Some made)) c.in_state-graph.ensures.graph found in
    let keeps = subst (λ (xs : List ℕ). MayKeepCut (graph_in p c.args.state.0) xs (Some made)) c.in_ok-copy.ensures here in
    cut_is p c.args.state.0 c.args.lengths.now made c.in_ok-line-in-Some.field-0 c.requires.lengths keeps c.in_ok-line-in-Some.ensures
