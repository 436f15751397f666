use Rattle.std.proofs.Common.{subst}
use Rattle.plan_terms.specs.Terms.{case_of}
use Rattle.plan_reports.specs.Terms.{IsLoneAnswer}
use Rattle.proof_report.specs.Terms.{IsSeparationOf}
use Rattle.command_answers.proofs.sample.planned.Goals as goal

pub unreachable-requires : goal.unreachable-requires
unreachable-requires g c =
    let p = case_of c.args.instance.now in
    let arm = c.in-Ok-Separated in
    let is : IsSeparationOf p arm.field-0-0.0 arm.field-0-1 = subst (IsLoneAnswer p c.args.instance.now.net.now.notes) arm.field-0-is arm.ensures in
    c.requires.survivable arm.field-0-0.0 is.place is.first.state is.first.separates
