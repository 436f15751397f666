use Rattle.std.{proofs.Common.{◌≤◌, ◌*◌, arith}, proofs.Math.Nat.{le-min, mul-le-mul_right}, proofs.lemmas.Grind.div_ceil_times}
use Rattle.separator.proofs.roomy_sets.roomy_num.Goals as goal

pub returns : goal.returns
returns c =
    let own = c.div_ceil.result in
    let least : own ≤ c.saturating_add-2.result = rw c.saturating_add-2.ensures (le-min (omega arith) (omega (arith, c.div_ceil.type_inv))) in
    let over : own * c.args.scale ≤ c.saturating_add-2.result * c.args.scale = mul-le-mul_right c.args.scale least in
    let under : c.args.num ≤ own * c.args.scale = rw c.div_ceil.ensures (div_ceil_times c.args.num c.args.scale c.requires).0 in
    omega (arith, over, under)
