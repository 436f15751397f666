-- capacities whose sums along lengths fit
use Rattle.std.specs.Prelude.{◌<◌, ◌^◌, All}
use Rattle.plan_terms.specs.Terms.{Caps}

-- numbers below 2^62 over a positive scale
pub record AreNarrow (caps : Caps) : Type 0 where
  pub scale : 0 < caps.scale
  pub nums : All (λ n. n < 2 ^ 62) caps.nums
