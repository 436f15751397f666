use Rattle.std.proofs.Common.{arith}
use Rattle.net_core.proofs.Library.{slice_get_within}
use Rattle.short_paths.proofs.Pricing.{scaled_long, scaled_short}
use Rattle.short_paths.proofs.cheapest_paths.CheapestPaths.new.Goals as goal

pub under-requires-clause-short : goal.under-requires-clause-short
under-requires-clause-short c =
    rw (c.in_ok-lengths.ensures, c.items.ensures) (scaled_short c.args.prices c.requires.low)

pub under-requires-clause-long : goal.under-requires-clause-long
under-requires-clause-long c = λ e v.
    rw (c.in_ok-lengths.ensures, c.items.ensures) (scaled_long c.args.prices e (omega (arith, slice_get_within _ e v.link v.at, c.requires.prices)))
