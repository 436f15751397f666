use Rattle.std.proofs.Common.{ltb, rules}
use Rattle.net_core.proofs.Library.{IsPartitionedBy-ltb, always_returns_same}
use Rattle.short_paths.proofs.ForwardStars.{start_from_point}
use Rattle.short_paths.proofs.forward_star.start_of.Goals as goal

pub returns : goal.returns
returns c =
    let point = c.partition_point.ensures.partitioned (λ h. ltb h.from.0 c.args.x) (always_returns_same _ _ _ (λ a r f k. search rules)) in
    start_from_point _ _ _ c.partition_point.ensures.bound (point (IsPartitionedBy-ltb (λ h. h.from.0) _ c.args.x c.requires))
