use Rattle.std.proofs.Common.{All, ◌∙◌, subst}
use Rattle.plan_terms.specs.Terms.{HasShortLengths}
use Rattle.session_run.proofs.reports.journal_and_pool.Goals as goal

pub returns-in-Ok-clause-entries : goal.returns-in-Ok-clause-entries
returns-in-Ok-clause-entries g c = c.in_ok-entries.ensures ∙ c.entries.ensures

pub returns-in-Ok-clause-pool : goal.returns-in-Ok-clause-pool
returns-in-Ok-clause-pool g c = c.in-Ok.ensures

pub returns-in-Ok-clause-short : goal.returns-in-Ok-clause-short
returns-in-Ok-clause-short g c = subst (All HasShortLengths) c.items.ensures c.are_short_cuts.ensures
