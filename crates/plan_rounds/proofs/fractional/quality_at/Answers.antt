use Rattle.std.proofs.Common.{Option, IfSome, subst}
use Rattle.net_core.proofs.Library.{∥∥₁_map}
use Rattle.plan_terms.specs.Terms.{Evidence, case_of}
use Rattle.plan_rounds.{specs.inner.Answered.IsEvidenceOfState, proofs.Undividing.whole_evidence}
use Rattle.plan_rounds.proofs.fractional.quality_at.Goals as goal

pub returns-in-Some : goal.returns-in-Some
returns-in-Some c =
    let p = case_of c.args.instance.now in
    ∥∥₁_map c.requires.wide (λ wide.
    rw c.whole_evidence.ensures
    (whole_evidence p c.args.caps.divisor c.args.caps.divided c.args.caps.whole c.in-Some.evidence c.requires.divided.positive c.requires.divided.times (subst (λ (o : Option Evidence). IfSome o (IsEvidenceOfState p c.args.caps.divided)) c.in-Some.is wide)))
