-- capacities that a metric inequality shows to be too small
use Rattle.std.specs.Prelude.{◌*◌, ◌<◌, sum_by, zip}
use Rattle.net_core.{specs.declared.plan.Caps.Caps, specs.declared.plan.CutLine.CutLine}

-- the capacities violate the cut: along its lengths they give less than its right side
abbrev pub Violates : Caps → CutLine → Type 0
Violates caps cut = sum_by (λ p. p.0 * p.1) (zip cut.lengths caps.nums) < cut.right * caps.scale
