use Rattle.std.proofs.Common.{arith}
use Rattle.plan_terms.specs.Terms.{case_of}
use Rattle.share_covers.proofs.Sharing.{covered_quality}
use Rattle.share_covers.proofs.choice.routed_covers.Goals as goal

pub returns-then-cost-installed : goal.returns-then-cost-installed
returns-then-cost-installed c = (c.in_ok-installed.installed, c.in_ok-installed.ensures, c.if-cost-installed.true)

pub route_covers-requires-clause-quality : goal.route_covers-requires-clause-quality
route_covers-requires-clause-quality c =
    covered_quality (case_of c.args.instance.now) c.args.share.now c.in_ok-installed.installed.counts (λ pairs units. c.in_ok-installed.ensures.covers pairs units) c.args.quality.now c.requires.quality

pub returns : goal.returns
returns c = record { covers = c.in_ok-installed.ensures; at_most = omega (arith, c.if-cost-installed.false); answered = c.in_ok-answer.ensures }
