-- what a node, a tree and a verdict must keep, and what a check answers
use Rattle.std.specs.Prelude.{◌≡◌, ℕ, ◌+◌, ◌≤◌, ◌<◌, ◌⊎◌, ⊤, List, length}
use Rattle.plan_terms.specs.Terms.{Case, Evidence, Route, Master, Link, capacities}
use Rattle.plan_report.specs.Terms.{IsRouteEvidenceInForm, known_to}
use Rattle.line_check.{specs.Terms.{IsLeastPlace, NamesLine, sources_of}, specs.declared.inequality.Inequality.Inequality}
use Rattle.tree_check.{specs.Boxes.{IsFixedBox, IsSplitOf, least_counts}, specs.BoxValues.{HasBoxValue, IsEmptiedBy}, specs.Trees.{IsNodeOf, IsWhole, TreeBox}, specs.declared.proof.BoxCert.BoxCert, specs.declared.proof.Node.Node, specs.declared.proof.Node.TheVariants.{Split, Closed, Empty, Spent, Stuck}, specs.declared.proof.Proof.Proof, specs.declared.proof.TreeAnswer.TreeAnswer, specs.declared.proof.TreeAnswer.TheVariants.{Accepted, Rejected, NoMemory}, specs.declared.proof.Verdict.Verdict, specs.declared.proof.Verdict.TheVariants.{Cheapest, Above}}

-- ---- nodes

-- route evidence in form at the scale 1 and the capacities of these counts
abbrev pub IsEvidenceAt : Case → List (List ℕ) → Evidence → Type 0
IsEvidenceAt p counts (Route state caps basis kind) =
    IsRouteEvidenceInForm (known_to p) p.demands state caps basis kind × (caps.scale ≡ 1) × (caps.nums ≡ capacities p.links counts)
IsEvidenceAt p counts (Master basis kind) = ⊥

-- a certificate closes a box: its value is at least the cost
pub record ClosesBox (names : ℕ → Inequality → Type 0) (links : List Link) (box : TreeBox) (cost : ℕ) (cert : BoxCert) : Type 0 where
  pub value : ℕ
  pub has : HasBoxValue names links box cert value
  pub reaches : cost ≤ value

-- a line that an index names empties a box
abbrev pub EmptiesBox : (ℕ → Inequality → Type 0) → List Link → TreeBox → ℕ → Type 0
EmptiesBox names links box cut = (line : Inequality) × names cut line × IsEmptiedBy links box line

-- a node holds for its box
abbrev pub HoldsNode : (ℕ → Inequality → Type 0) → Case → ℕ → TreeBox → Node → Type 0
HoldsNode names p cost box (Split link at_module number) = IsSplitOf box link.0 at_module number
HoldsNode names p cost box (Closed cert) = ClosesBox names p.links box cost cert
HoldsNode names p cost box (Empty cut) = EmptiesBox names p.links box cut
HoldsNode names p cost box (Spent cert) = (value : ℕ) × HasBoxValue names p.links box cert value
HoldsNode names p cost box (Stuck cert evidence) =
    ((value : ℕ) × HasBoxValue names p.links box cert value) × IsFixedBox box × IsEvidenceAt p (least_counts box) evidence

-- the lines that a proof's indices name: those of its cuts, and then its further lines
abbrev pub names_in_proof : Case → Proof → ℕ → Inequality → Type 0
names_in_proof p proof = NamesLine p (sources_of proof.cuts proof.lines)

-- node i of the list belongs to the tree, and holds
pub record HoldsAtNode (p : Case) (proof : Proof) (i : ℕ) : Type 0 where
  pub box : TreeBox
  pub node : Node
  pub is_node : IsNodeOf p.links proof.tree i box node
  pub holds : HoldsNode (names_in_proof p proof) p proof.plan.cost box node

-- node i doesn't hold
abbrev pub FailsAtNode : Case → Proof → ℕ → Type 0
FailsAtNode p proof i = (i < length proof.tree) × (HoldsAtNode p proof i → ⊥)

-- all nodes hold
abbrev pub HoldAllNodes : Case → Proof → Type 0
HoldAllNodes p proof = (i : ℕ) → i < length proof.tree → HoldsAtNode p proof i

-- ---- verdicts

-- the certificate of an open leaf has this value for its box
abbrev pub HasOpenValue : (ℕ → Inequality → Type 0) → List Link → TreeBox → Node → ℕ → Type 0
HasOpenValue names links box (Spent cert) value = HasBoxValue names links box cert value
HasOpenValue names links box (Stuck cert evidence) value = HasBoxValue names links box cert value
HasOpenValue names links box _ value = ⊥

-- node i is an open leaf of this value
pub record IsOpenAt (p : Case) (proof : Proof) (i value : ℕ) : Type 0 where
  pub box : TreeBox
  pub node : Node
  pub is_node : IsNodeOf p.links proof.tree i box node
  pub has : HasOpenValue (names_in_proof p proof) p.links box node value

-- the least of the plan's cost and the values of the open leaves
pub record IsLeastValue (p : Case) (proof : Proof) (least : ℕ) : Type 0 where
  pub at_most_cost : least ≤ proof.plan.cost
  pub at_most_each : (i value : ℕ) → IsOpenAt p proof i value → least ≤ value
  pub reached : (least ≡ proof.plan.cost) ⊎ ((i : ℕ) × IsOpenAt p proof i least)

-- the verdict follows: no leaf is open, or this is the least value
abbrev pub VerdictFollows : Case → Proof → Verdict → Type 0
VerdictFollows p proof Cheapest = (i value : ℕ) → IsOpenAt p proof i value → ⊥
VerdictFollows p proof (Above least) = IsLeastValue p proof least

-- ---- answers

-- a proof that is accepted: all nodes hold, none is missing, and the verdict follows
pub record IsAcceptedProof (p : Case) (proof : Proof) : Type 0 where
  pub hold : HoldAllNodes p proof
  pub whole : IsWhole p.links proof.tree
  pub follows : VerdictFollows p proof proof.verdict

-- all nodes hold, but one is missing, at the end of the list
pub record IsMissingAt (p : Case) (proof : Proof) (k : ℕ) : Type 0 where
  pub hold : HoldAllNodes p proof
  pub missing : IsWhole p.links proof.tree → ⊥
  pub at_end : k ≡ length proof.tree

-- the tree is whole and all nodes hold, but the verdict doesn't follow
pub record IsUnfounded (p : Case) (proof : Proof) (k : ℕ) : Type 0 where
  pub hold : HoldAllNodes p proof
  pub whole : IsWhole p.links proof.tree
  pub unfounded : VerdictFollows p proof proof.verdict → ⊥
  pub past_end : k ≡ length proof.tree + 1

-- the answer on a proof, by what comes first: a node that doesn't hold, a missing one, a verdict that doesn't follow
abbrev pub AnswersProof : Case → Proof → TreeAnswer → Type 0
AnswersProof p proof Accepted = IsAcceptedProof p proof
AnswersProof p proof (Rejected k) = IsLeastPlace (FailsAtNode p proof) k ⊎ (IsMissingAt p proof k ⊎ IsUnfounded p proof k)
AnswersProof p proof NoMemory = ⊤
