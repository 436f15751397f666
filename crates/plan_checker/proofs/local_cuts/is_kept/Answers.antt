use Rattle.std.proofs.Common.{refl, eqb-true, eq-eqb}
use Rattle.plan_terms.specs.Terms.{graph_of}
use Rattle.plan_checker.proofs.KeptLengths.{kept_by}
use Rattle.plan_checker.proofs.local_cuts.is_kept.Goals as goal

pub returns-then-all_survive : goal.returns-then-all_survive
returns-then-all_survive c = (
  λ t. kept_by (graph_of c.args.graph.now) c.args.lengths.now c.divisor_of_lengths.result c.requires (c.if-all_survive.ensures.0 refl) c.divisor_of_lengths.ensures (eqb-true _ _ t),
  λ kept. eq-eqb _ _ (kept.lowest c.divisor_of_lengths.result c.divisor_of_lengths.ensures.divides),
)
