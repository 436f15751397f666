use Rattle.std.proofs.Common.{map, take}
use Rattle.proof_report.specs.ProvedReports.{AreHandedIn}
use Rattle.proof_report.proofs.handed_cuts.handed_cuts.Given as goal

-- the pool, with the cuts of the lines so far
abbrev pub invariant-loop-line : goal.invariant-loop-line
invariant-loop-line l = AreHandedIn l.pool (map (λ x. x.cut) (take l.line-index l.certificate.lines)) l.cuts
