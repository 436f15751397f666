use Rattle.std.proofs.Common.{All, take}
use Rattle.plan_terms.specs.Terms.{IsCut, case_of}
use Rattle.proof_report.proofs.handed_cuts.work_out.Given as goal

-- the cuts so far are cuts of the case
abbrev pub invariant-loop-cut : goal.invariant-loop-cut
invariant-loop-cut l = All (IsCut (case_of l.instance)) (take l.cut-index l.cuts)
