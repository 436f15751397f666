use Rattle.session_script.proofs.command.act.Goals as goal

pub returns-in-Drop : goal.returns-in-Drop
returns-in-Drop c = rw c.in-Drop.is (c.drop_demand.ensures c.args.places)
