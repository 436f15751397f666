use Rattle.planner.proofs.after_rounds.counts_after.Goals as goal

pub choose_counts-chosen-requires-clause-survivable : goal.choose_counts-chosen-requires-clause-survivable
choose_counts-chosen-requires-clause-survivable c = c.requires.survivable

pub choose_counts-chosen-requires-clause-best : goal.choose_counts-chosen-requires-clause-best
choose_counts-chosen-requires-clause-best c = c.requires.best

pub returns : goal.returns
returns c = c.choose_counts-chosen.ensures
