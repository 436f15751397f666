use Rattle.plan_rounds.proofs.Lemmas.{sees_none}
use Rattle.planner.proofs.on_snapshot.plan_snapshot.Goals as goal

pub returns-in-Err-clause-more : goal.returns-in-Err-clause-more
returns-in-Err-clause-more g c = sees_none (g.S.Separate.seen_of c.args.separator.now)

pub returns-in-Ok-Some-clause-more : goal.returns-in-Ok-Some-clause-more
returns-in-Ok-Some-clause-more g c = sees_none (g.S.Separate.seen_of c.args.separator.now)
