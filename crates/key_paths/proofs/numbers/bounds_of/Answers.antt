use Rattle.std.proofs.Common.{arith, ◌≡◌, ◌∙◌, w64, to_z, of_z}
use Rattle.net_core.proofs.Library.{ints}
use Rattle.plan_terms.specs.Terms.{graph_of}
use Rattle.route_law.specs.Terms.{route_bound}
use Rattle.simplex_core.proofs.Starts.{number_push}
use Rattle.key_paths.proofs.numbers.bounds_of.Goals as goal

pub loop-row-preserved : goal.loop-row-preserved
loop-row-preserved c =
    let back : to_z w64 (of_z w64 c.narrow_bound.result) ≡ c.narrow_bound.result = omega (arith, ints, c.narrow_bound.type_inv) in
    number_push (route_bound (graph_of c.args.task.now.graph) c.args.task.now.demands.now c.args.task.now.caps.now) c.loop-row.bounds c.loop-row.row (to_z w64 (of_z w64 c.narrow_bound.result)) c.push.new.self
    c.loop-row.invariant.0 c.loop-row.invariant.1 (back ∙ c.narrow_bound.ensures.value) c.in_ok-push.ensures.ok
