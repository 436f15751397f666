use Rattle.std.proofs.Common.{◌≡◌, map, take}
use Rattle.greedy_router.specs.inner.FullLinks.{full_price}
use Rattle.greedy_router.proofs.open_paths.full_prices.Given as goal

abbrev pub invariant-loop-spare : goal.invariant-loop-spare
invariant-loop-spare l = l.prices ≡ map full_price (take l.spare-index l.spares)
