use Rattle.std.proofs.Common.{rules}
use Rattle.net_core.proofs.Library.{IsNonDecreasingBy-from_sort_by_key}
use Rattle.short_paths.proofs.forward_star.sorted.Goals as goal

pub returns-clause-sorted : goal.returns-clause-sorted
returns-clause-sorted c =
    rw c.from_vec.ensures (IsNonDecreasingBy-from_sort_by_key (λ h. h.from.0) _ c.sort_unstable_by_key.ensures.sorted (λ a r q k. search rules))
