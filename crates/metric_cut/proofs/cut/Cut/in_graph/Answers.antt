use Rattle.std.proofs.Common.{arith, refl}
use Rattle.plan_terms.specs.Terms.{graph_of}
use Rattle.metric_cut.proofs.Keepings.{keeps_kept}
use Rattle.metric_cut.proofs.cut.Cut.in_graph.Goals as goal

pub returns-clause-kept : goal.returns-clause-kept
returns-clause-kept c =
    let g = graph_of c.args.graph.now in
    let keeps = c.if-not-keep.ensures.kept refl in (
      keeps,
      record {
        state = refl;
        listed_state = omega (arith, c.args.graph.now.in_range);
        kept = keeps_kept g c.args.lengths c.keep.new.lengths c.requires.lengths keeps;
        distances = c.in_ok-table.ensures;
      },
    )
