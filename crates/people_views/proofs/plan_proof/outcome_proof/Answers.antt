use Rattle.std.proofs.Common.{IfErr, subst, sym}
use Rattle.plan_types.specs.declared.report.Outcome.{Outcome}
use Rattle.plan_view.specs.Terms.{problem_case}
use Rattle.people_files.specs.Endings.{Halts}
use Rattle.people_views.specs.ProofLines.{FailsAtOutcomeLines}
use Rattle.people_views.proofs.plan_proof.outcome_proof.Goals as goal

pub returns-in-Planned-clause-fails : goal.returns-in-Planned-clause-fails
returns-in-Planned-clause-fails c =
    subst (λ (o : Outcome). IfErr c.plan_proof.result (Halts (FailsAtOutcomeLines c.args.name.now (problem_case c.args.problem.now) o c.args.bytes.now))) (sym c.in-Planned.is) c.plan_proof.ensures.fails
