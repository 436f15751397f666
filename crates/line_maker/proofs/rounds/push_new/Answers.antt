use Rattle.std.proofs.Common.{subst}
use Rattle.line_maker.{specs.inner.Candidates.IsNarrowSum, proofs.Making.made_more}
use Rattle.line_maker.proofs.rounds.push_new.Goals as goal

pub returns-clause-lines : goal.returns-clause-lines
returns-clause-lines c =
    let links = c.args.links.now in
    let tested = c.args.known.now.tested.now in
    let narrow = subst (IsNarrowSum links tested) c.items-2.ensures (c.is_narrow.ensures c.if-not-is_narrow.false) in
    made_more links tested _ c.push-2.new.self c.args.candidate.lowest.divisor _ c.in_ok-push-2.ensures.ok
    c.requires.lines c.args.candidate.lowest.limits c.requires.candidate narrow
