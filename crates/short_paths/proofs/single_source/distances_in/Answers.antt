use Rattle.std.proofs.Common.{◌<◌, ◌^◌, ap, length, arith}
use Rattle.net_core.proofs.Library.{All-from_get_or, IfOk-weaker}
use Rattle.short_paths.{specs.declared.dijkstra.TheConstants.FAR, proofs.Tables.{are_distances, found_low}}
use Rattle.short_paths.proofs.single_source.distances_in.Goals as goal

pub answers-requires : goal.answers-requires
answers-requires c =
    let table = rw c.items.ensures at c.run.ensures.table in
    rw c.found.ensures (All-from_get_or (λ d. d < FAR → d < 2 ^ 39) _ 0 (λ k lt. found_low _ _ _ _ _ table c.in_ok-wide.ensures.short (omega (arith, c.run.ensures.size, c.in_ok-star.ensures.nodes, c.in_ok-star.star.few, ap length c.nodes.ensures)) k))

pub returns : goal.returns
returns c =
    let table = rw (c.items.ensures, c.in_ok-wide.ensures.same) at c.run.ensures.table in
    IfOk-weaker c.answers.result _ _
    (λ answers is. are_distances _ _ _ _ _ _ _ answers (rw c.found.ensures at is) c.in_ok-star.ensures.arcs (omega (arith, c.run.ensures.size, ap length c.nodes.ensures)) table)
    c.answers.ensures
