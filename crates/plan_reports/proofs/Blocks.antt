-- what keeps a module of a trimmed plan can be told
use Rattle.std.proofs.Common.{ℕ, List, All}
use Rattle.net_core.proofs.Library.{All-weaker}
use Rattle.plan_terms.specs.Terms.{Caps, Case, Evidence, Route, Master, graph_in}
use Rattle.flow_router.specs.Answers.{IsEvidenceHere}
use Rattle.trim_plan.{specs.Terms.{IsStopAt, Stop, Cut, Wide}, specs.Trimmed.{IsBlockAt, IsTrimmedBy}, specs.declared.trimmed_plan.Block.Block}
use Rattle.report_comments.specs.ReportComments.{IsOfRouting}
use Rattle.plan_reports.specs.BlockLines.{IsTold}

evidence_of_routing : (p : Case) (s : ℕ) (caps : Caps) (e : Evidence) → IsEvidenceHere (graph_in p s) p.demands caps e → IsOfRouting e
evidence_of_routing p s caps (Route state within basis kind) here = tt
evidence_of_routing p s caps (Master basis kind) here = here

stop_told : (p : Case) (caps : Caps) (stop : Stop) → IsStopAt p caps stop → IsTold stop
stop_told p caps (Cut line) at = tt
stop_told p caps (Wide evidence) at = evidence_of_routing p at.state caps evidence at.here

pub blocks_told : (p : Case) (counts : List (List ℕ)) (blocks : List Block) → IsTrimmedBy p counts blocks → All (λ b. IsTold b.why) blocks
blocks_told p counts blocks is = All-weaker (IsBlockAt p counts) (λ b. IsTold b.why) (λ b at. stop_told p _ b.why at) blocks is.blocked
