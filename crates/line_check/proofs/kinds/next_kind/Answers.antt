use Rattle.std.proofs.Common.{◌+◌, ◌∙◌, arith}
use Rattle.line_check.proofs.KindsSoFar.{module_number_is, next_is, next_least}
use Rattle.line_check.proofs.kinds.next_kind.Goals as goal

pub loop-e-preserved : goal.loop-e-preserved
loop-e-preserved c =
    let links = c.args.links.now in
    let over = c.args.over.now in
    let e = c.loop-e.e in
    let best = c.loop-e.best in
    let next = c.next_on_link-best.result in
    let same = c.len.ensures ∙ module_number_is links e c.index-links-e.result c.loop-e-test.true in
    record {
      least = next_least links over e c.len.result c.args.above best next same c.next_on_link-best.ensures.below c.next_on_link-best.ensures.least c.loop-e.invariant.least;
      is = next_is links over e c.len.result c.args.above best next (c.args.need + 1) same c.loop-e.invariant.is c.next_on_link-best.ensures.is;
    }

pub returns-clause-least : goal.returns-clause-least
returns-clause-least c = λ n above gives. c.loop-e.invariant.least n above (gives.0, gives.1, omega (arith, gives.2, c.loop-e-test.false), gives.3, gives.4)
