use Rattle.std.proofs.Common.{subst}
use Rattle.line_maker.{specs.inner.Candidates.IsNarrowSum, proofs.Making.coarse_more}
use Rattle.line_maker.proofs.coarse.push_coarse.Goals as goal

pub returns-clause-lines : goal.returns-clause-lines
returns-clause-lines c =
    let links = c.args.links.now in
    let tested = c.args.tested.now in
    let narrow = subst (IsNarrowSum links tested) c.items-else-is_there.ensures (c.is_narrow.ensures c.if-not-is_narrow.false) in
    coarse_more links tested _ c.push-2.new.self c.args.i _ c.args.coarse c.in_ok-push-2.ensures.ok
    c.requires.lines c.in_ok-terms.ensures c.args.coarse.limits c.requires.sound narrow c.requires.coarse
