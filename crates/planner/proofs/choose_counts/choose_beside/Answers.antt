use Rattle.std.proofs.Common.{IfSome, subst}
use Rattle.net_core.proofs.Library.{∥∥₁_map}
use Rattle.plan_terms.specs.Terms.{case_of}
use Rattle.planner.specs.inner.Finishing.{IsShareFor}
use Rattle.planner.proofs.choose_counts.choose_beside.Goals as goal

pub choose-requires-clause-quality : goal.choose-requires-clause-quality
choose-requires-clause-quality c = ∥∥₁_map c.requires.best (λ some. (subst (λ o. IfSome o (IsShareFor (case_of c.args.instance.now) c.args.quality)) c.in-Some.is some).of_share)
