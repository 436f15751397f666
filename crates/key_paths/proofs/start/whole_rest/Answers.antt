use Rattle.std.proofs.Common.{arith, ◌≡◌, ◌∙◌, to_z, of_z}
use Rattle.net_core.proofs.Library.{w128, ints}
use Rattle.checked_fraction.specs.Terms.{num}
use Rattle.simplex_core.proofs.Starts.{number_push}
use Rattle.key_paths.proofs.start.whole_rest.Goals as goal

pub loop-k-preserved : goal.loop-k-preserved
loop-k-preserved c =
    let back : to_z w128 (of_z w128 c.widen.result) ≡ c.widen.result = omega (arith, ints, c.widen.type_inv) in
    number_push (num c.args.bounds.now) c.loop-k.rest c.loop-k.k (to_z w128 (of_z w128 c.widen.result)) c.push.new.self c.loop-k.invariant.0 c.loop-k.invariant.1 (back ∙ c.widen.ensures) c.in_ok-push.ensures.ok
