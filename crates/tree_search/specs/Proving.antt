-- the result of a search for a branch tree: a proof, and the cause of each of its nodes
use Rattle.std.specs.Prelude.{◌≡◌, ℕ, ◌+◌, ◌*◌, ◌^◌, ◌≤◌, ◌<◌, ◌↔◌, List, All, Contains, length, take}
use Rattle.plan_terms.specs.Terms.{Case, CutLine, IsAble, IsCut, capacities, total_cost}
use Rattle.plan_types.specs.declared.plan.Plan.{Plan}
use Rattle.tree_boxes.specs.Terms.{IsWideSomewhere, whole_caps, IsCheaperPlan, BoxCert, Node, Split, Spent, Stuck, Proof, IsUnsettled, lines_of_plan}
use Rattle.tree_check.{specs.Terms.{IsFixedBox, least_counts, IsNodeOf, TreeBox, IsBoxCertificate, module_costs, IsAcceptedProof, IsOpenAt}, specs.declared.proof.Verdict.TheVariants.{Above, Cheapest}}
use Rattle.line_check.specs.Inequalities.{entry}
use Rattle.tree_search.specs.FewSplits.{AreCharged, split_number, split_room}

-- ---- causes

-- The cause of a node. A box is split only if it isn't settled at once, at a number of modules that cost less than the plan. It is spent only if it isn't
-- settled at once, has several choices of counts, and the tree has as many splits as the limit says. It is stuck only if evidence holds at the capacities
-- of its counts.
abbrev pub HasNodeCause : Case → Plan → List CutLine → ℕ → List Node → TreeBox → Node → Type 0
HasNodeCause p plan handed limit tree box (Split link at_module number) =
    (entry (module_costs p.links) link.0 at_module * number < plan.cost) × IsUnsettled p.links plan handed box
HasNodeCause p plan handed limit tree box (Spent cert) =
    (split_number tree ≡ limit) × (IsFixedBox box → ⊥) × IsUnsettled p.links plan handed box
HasNodeCause p plan handed limit tree box (Stuck cert evidence) = IsWideSomewhere p (whole_caps (capacities p.links (least_counts box))) evidence
HasNodeCause p plan handed limit tree box _ = Unit {0}

-- the plan's certificate, read as one of boxes, is valid for the box of each open leaf
abbrev pub IsCertificateOfLeaves : Case → Proof → Type 0
IsCertificateOfLeaves p proof = (i value : ℕ) (leaf : IsOpenAt p proof i value)
    → IsBoxCertificate p.links leaf.box proof.plan.certificate.den (lines_of_plan p.links proof.plan.certificate)

-- The result of a search for a branch tree: the given plan or a cheaper one, and a proof that is accepted and whose nodes have their causes. All its cuts
-- are cuts of the case, the handed-in ones first. Its tree has at most as many splits as the limit says, and, where all modules cost something, fewer than
-- a tree has room for. Each open leaf is worth less than the plan costs. A value is told exactly if some leaf is open; it is at least the plan's bound if
-- the plan's certificate is valid for all open leaves. There are at most 6,145 more cuts and lines than three times the handed-in cuts, and two more for
-- each split of the limit.
pub record IsProofOf (p : Case) (given : Plan) (handed : List CutLine) (limit : ℕ) (proof : Proof) : Type 0 where
  pub plan : IsCheaperPlan p given proof.plan
  pub cuts : take (length handed) proof.cuts ≡ handed
  pub sound : All (IsCut p) proof.cuts
  pub few : length proof.tree + 1 < 2 ^ 32
  pub short : length proof.cuts + length proof.lines ≤ 3 * length handed + 2 * limit + 6145
  pub accepted : IsAcceptedProof p proof
  pub within : split_number proof.tree ≤ limit
  pub fewer : AreCharged p.links → split_number proof.tree < split_room proof.plan.cost p.links
  pub causes : (i : ℕ) (box : TreeBox) (node : Node) → IsNodeOf p.links proof.tree i box node → HasNodeCause p proof.plan handed limit proof.tree box node
  pub below : (i value : ℕ) → IsOpenAt p proof i value → value < proof.plan.cost
  pub told : ((least : ℕ) × (proof.verdict ≡ Above least)) ↔ ((i : ℕ) × (value : ℕ) × IsOpenAt p proof i value)
  pub bounded : (least : ℕ) → proof.verdict ≡ Above least → IsCertificateOfLeaves p proof → proof.plan.bound ≤ least

-- ---- what it shows

-- where a proof says that its plan is cheapest, no counts that can carry the demands cost less
abbrev pub ShowsCheapest : Case → Proof → Type 0
ShowsCheapest p proof = proof.verdict ≡ Cheapest → (counts : List (List ℕ)) → IsAble p counts → proof.plan.cost ≤ total_cost p.links counts

-- where a proof tells a value, no counts that can carry the demands cost less than it
abbrev pub ShowsBound : Case → Proof → Type 0
ShowsBound p proof = (least : ℕ) → proof.verdict ≡ Above least → (counts : List (List ℕ)) → IsAble p counts → least ≤ total_cost p.links counts

-- ---- what is handed in

-- the cuts that a search begins with: cuts of the case, at most 8,192, among them those of the plan's certificate
pub record AreHandedCuts (p : Case) (plan : Plan) (cuts : List CutLine) : Type 0 where
  pub few : length cuts ≤ 8192
  pub sound : All (IsCut p) cuts
  pub own : All (λ l. Contains cuts l.cut) plan.certificate.lines

-- ---- a limit that is never reached

-- where all modules cost something, a limit of at least as many splits as a tree has room for leaves no box spent
abbrev pub NoneIsSpent : Type 0
NoneIsSpent = (p : Case) (given : Plan) (handed : List CutLine) (limit : ℕ) (proof : Proof) (i : ℕ) (box : TreeBox) (cert : BoxCert)
    → AreCharged p.links
    → IsProofOf p given handed limit proof
    → split_room proof.plan.cost p.links ≤ limit
    → IsNodeOf p.links proof.tree i box (Spent cert)
    → ⊥
