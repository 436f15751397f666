use Rattle.std.proofs.Common.{ltb, rules, arith, ltb-true, ltb-false}
use Rattle.net_core.proofs.Library.{IsPartitionedBy-ltb, always_returns_same}
use Rattle.path_split.specs.inner.Legs.{leg_at, no_leg}
use Rattle.path_split.proofs.star.start_of.Goals as goal

pub returns : goal.returns
returns c =
    let point = c.partition_point.ensures.partitioned (λ g. ltb g.from.0 c.args.x) (always_returns_same _ _ _ (λ a r f k. search rules)) (IsPartitionedBy-ltb (λ g. g.from.0) _ c.args.x c.requires) in
    record {
      before = λ k low. ltb-true (leg_at c.args.legs.now k).from.0 c.args.x (point.0 k no_leg (omega arith) low);
      after = λ k low high. ltb-false (leg_at c.args.legs.now k).from.0 c.args.x (point.1 k no_leg low high);
    }
