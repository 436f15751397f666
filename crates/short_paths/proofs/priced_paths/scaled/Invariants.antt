use Rattle.std.proofs.Common.{◌≡◌, map, take}
use Rattle.short_paths.specs.inner.Scales.{scaled}
use Rattle.short_paths.proofs.priced_paths.scaled.Given as goal

abbrev pub invariant-loop-price : goal.invariant-loop-price
invariant-loop-price l = l.lengths ≡ map scaled (take l.price-index l.prices)
