use Rattle.std.proofs.Common.{List, All, subst}
use Rattle.plan_terms.specs.Terms.{CutLine, HasShortLengths}
use Rattle.planner.proofs.after_rounds.counts_and_bound.Goals as goal

pub better_bound-requires-clause-cuts : goal.better_bound-requires-clause-cuts
better_bound-requires-clause-cuts c = c.requires.cuts

pub better_bound-requires-clause-best : goal.better_bound-requires-clause-best
better_bound-requires-clause-best c = c.requires.best

pub counts_after-requires-clause-survivable : goal.counts_after-requires-clause-survivable
counts_after-requires-clause-survivable c = c.requires.survivable

pub counts_after-requires-clause-best : goal.counts_after-requires-clause-best
counts_after-requires-clause-best c = c.requires.share

pub returns-in-Ok-counts_after : goal.returns-in-Ok-counts_after
returns-in-Ok-counts_after c = record {
  short = subst (λ (xs : List CutLine). All HasShortLengths xs) c.items.ensures c.are_short_cuts.ensures;
  better = c.in-Ok.ensures;
  counts = c.in-Ok-counts_after.ensures;
}
