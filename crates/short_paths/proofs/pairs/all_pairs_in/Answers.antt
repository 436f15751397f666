use Rattle.std.proofs.Common.{ap, length, arith}
use Rattle.plan_terms.proofs.Lemmas.{joins_turned}
use Rattle.short_paths.{proofs.PairNumbers.pairs_distance, proofs.Tables.{arcs_distance, arcs_turned}}
use Rattle.short_paths.proofs.pairs.all_pairs_in.Goals as goal

pub returns : goal.returns
returns c =
    let are = c.in_ok-star.ensures.arcs in
    let pairs = rw (c.items.ensures, c.in_ok-wide.ensures.same) at c.in_ok-pairs.ensures in
    record {
      count = omega (arith, ap length c.nodes.ensures);
      each = λ a b below within. rw c.of_pairs.ensures.pairs (arcs_distance _ _ a b _ _ are
          (pairs_distance _ (arcs_turned _ (joins_turned _) _ are) _ _ _ pairs a b (omega (arith, ap length c.nodes.ensures)) (omega (arith, ap length c.nodes.ensures))));
    }
