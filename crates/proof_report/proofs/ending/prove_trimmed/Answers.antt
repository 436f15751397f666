use Rattle.std.proofs.Common.{subst}
use Rattle.plan_terms.specs.Terms.{case_of}
use Rattle.plan_reports.specs.TrimmedReports.{IsTrimEnding}
use Rattle.proof_report.proofs.ending.prove_trimmed.Goals as goal

pub prove_planned-requires-clause-trimmed : goal.prove_planned-requires-clause-trimmed
prove_planned-requires-clause-trimmed g c =
    let i = c.args.instance.now in
    record { blocks = _; trimmed = subst (IsTrimEnding (case_of i) i.net.now.notes) c.in-Trimmed.is c.requires.trimmed }

pub returns-in-Trimmed-clause-plain : goal.returns-in-Trimmed-clause-plain
returns-in-Trimmed-clause-plain g c = λ none. record { lined = c.in_ok-proved-in-Trimmed.ensures.lined; plain = c.in_ok-proved-in-Trimmed.ensures.plain none }

pub returns-clause-lined : goal.returns-clause-lined
returns-clause-lined g c =
    let i = c.args.instance.now in
    subst (IsTrimEnding (case_of i) i.net.now.notes) c.in-Separated.is c.requires.trimmed

pub returns-clause-plain : goal.returns-clause-plain
returns-clause-plain g c = λ _.
    let i = c.args.instance.now in
    subst (IsTrimEnding (case_of i) i.net.now.notes) c.in-Separated.is c.requires.trimmed
