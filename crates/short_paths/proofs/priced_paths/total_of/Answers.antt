use Rattle.std.proofs.Common.{arith, get_or}
use Rattle.plan_terms.specs.Terms.{LinkId}
use Rattle.short_paths.proofs.Pricing.{total_more}
use Rattle.short_paths.proofs.priced_paths.total_of.Goals as goal

abbrev first_link : LinkId
first_link = record { 0 = 0 }

pub loop-e-preserved : goal.loop-e-preserved
loop-e-preserved c =
    let more = total_more c.args.prices.now c.args.path.now c.loop-e.e-index first_link c.loop-e-test.true in (
      omega (arith, c.loop-e.invariant.0, more),
      omega (arith, c.loop-e.invariant.1, c.type_inv.prices (get_or c.args.path.now c.loop-e.e-index first_link).0),
    )
