use Rattle.report_checker.proofs.outcomes.check_claim.Goals as goal

pub returns-in-Planned-clause-told : goal.returns-in-Planned-clause-told
returns-in-Planned-clause-told c = rw c.in-Planned.is c.check_instance.ensures.told
