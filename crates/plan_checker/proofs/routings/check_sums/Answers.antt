use Rattle.std.proofs.Common.{subst}
use Rattle.plan_terms.specs.Terms.{case_of}
use Rattle.plan_checker.{specs.Carried.IsUncarried, specs.inner.Tests.IsFirstPair, proofs.Telling.no_uncarried}
use Rattle.plan_checker.proofs.routings.check_sums.Goals as goal

pub returns-clause-told : goal.returns-clause-told
returns-clause-told c = no_uncarried (case_of c.args.instance.now) c.args.routings.now (subst (IsFirstPair (IsUncarried (case_of c.args.instance.now) 1 c.args.routings.now)) c.in_default.is c.in_ok-place.ensures)
