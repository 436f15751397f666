use Rattle.std.proofs.Common.{List, arith, subst}
use Rattle.plan_terms.specs.Terms.{CutLine, case_of}
use Rattle.table_maker.{specs.SetCuts.IsNewTo, proofs.Parting.{cuts_more, different_more, few_more, new_more}}
use Rattle.table_maker.proofs.boundaries.Sets.push.Goals as goal

pub returns-clause-cuts : goal.returns-clause-cuts
returns-clause-cuts c =
    let cut = c.args.cut in
    let is = c.in_ok-push.ensures.ok in
    let so_far = c.requires.cuts in
    let other = subst (λ (cuts : List CutLine). IsNewTo cuts cut) c.items.ensures (c.is_among-else-is_among.ensures c.if-is_among-2.false) in (
      cuts_more (case_of c.args.self.now.instance.now) _ _ cut is so_far.0 c.requires.is (omega (arith, c.if-cut-eq0.false)),
      few_more _ _ cut is (omega (arith, c.if-len-ge-MOST_CUTS.false, c.len.ensures)),
      different_more _ _ cut is so_far.2 other,
      new_more c.args.self.now.known.now _ _ cut is so_far.3 (c.is_among.ensures c.if-is_among.false),
    )
