use Rattle.std.proofs.Common.{arith, ◌≡◌, ◌∙◌, w64, to_z, of_z}
use Rattle.net_core.proofs.Library.{ints}
use Rattle.simplex_core.proofs.Starts.{number_push}
use Rattle.simplex_core.proofs.basis.bounds_of.Goals as goal

pub loop-i-preserved : goal.loop-i-preserved
loop-i-preserved g c =
    let back : to_z w64 (of_z w64 c.bound.result) ≡ c.bound.result = omega (arith, ints, c.bound.type_inv) in
    number_push (g.C.Columns.bound c.args.cols.now) c.loop-i.bounds c.loop-i.i (to_z w64 (of_z w64 c.bound.result)) c.push.new.self c.loop-i.invariant.0 c.loop-i.invariant.1 (back ∙ c.bound.ensures) c.in_ok-push.ensures.ok
