use Rattle.std.proofs.Common.{refl}
use Rattle.net_core.proofs.Library.{∥∥₁_map}
use Rattle.plan_rounds.proofs.rounds.Rounds.ended.Goals as goal

pub returns : goal.returns
returns c = ∥∥₁_map c.in_ok-quality.ensures (λ q. (c.in_ok-quality.quality, refl, q))
