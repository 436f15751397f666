use Rattle.people_commands.proofs.Planning.{few_splits}
use Rattle.people_commands.proofs.plan.splits_of.Goals as goal

pub returns-clause-few : goal.returns-clause-few
returns-clause-few c = few_splits c.args.words.now.splits c.args.words.now.few
