-- what a search finds at a box of module counts
use Rattle.std.specs.Prelude.{◌≡◌, ℕ, ◌+◌, ◌*◌, ◌^◌, ◌≤◌, ◌<◌, Bool, true, false, List, IfSome, All}
use Rattle.plan_terms.specs.Terms.{AreCounts, AreWithinLimits, Case, CutLine, Evidence, Link, capacities, total_cost}
use Rattle.plan_types.specs.declared.plan.Plan.{Plan}
use Rattle.plan_swaps.specs.Terms.{AreRoutingsWithin, IsWideSomewhere, whole_caps}
use Rattle.line_check.specs.Terms.{entry, names_by}
use Rattle.tree_check.{specs.Terms.{IsFixedBox, least_counts, TreeBox, HasBoxValue, module_costs, HoldsNode, IsEvidenceAt, Tested}, specs.declared.proof.Node.Node, specs.declared.proof.Node.TheVariants.{Split, Closed, Empty, Spent, Stuck}}
use Rattle.tree_boxes.{specs.Causes.{HasPlanValue, IsUnsettled}, specs.declared.certs.Valued.Valued, specs.declared.found.Cheaper.Cheaper, specs.declared.found.Found.Found, specs.declared.twigs.OpenBox.OpenBox, specs.declared.twigs.Twig.Twig}
use Rattle.tree_boxes.specs.declared.found.Found.TheVariants as found
use Rattle.tree_boxes.specs.declared.twigs.Twig.TheVariants as twig

-- ---- places of trees

-- a node is a split
abbrev pub is_split : Node → Bool
is_split (Split link at_module number) = true
is_split _ = false

-- the node that a place of a tree becomes; an open box becomes a spent leaf
abbrev pub twig_node : Twig → Node
twig_node (twig.Settled node) = node
twig_node (twig.Stuck v evidence) = Stuck v.cert evidence
twig_node (twig.Open o) = Spent o.best.cert

-- a place that isn't a split
abbrev pub IsLeafTwig : Twig → Type 0
IsLeafTwig t = is_split (twig_node t) ≡ false

-- ---- counts and boxes

-- counts with their cost, which is less than so much, and a routing within them for each state
pub record AreCheaperCounts (p : Case) (cost : ℕ) (c : Cheaper) : Type 0 where
  pub shape : AreCounts p.links c.counts
  pub limits : AreWithinLimits p.links c.counts
  pub routings : AreRoutingsWithin p (capacities p.links c.counts) c.routings
  pub paid : c.cost ≡ total_cost p.links c.counts
  pub cheaper : c.cost < cost

-- least counts are low: at most 2^44, and one more for each split
abbrev pub AreLow : ℕ → TreeBox → Type 0
AreLow n box = All (All (λ s. s.least ≤ 2 ^ 44 + n)) box

-- no span is empty
abbrev pub HaveCounts : TreeBox → Type 0
HaveCounts box = All (All (λ s. IfSome s.most (λ most. s.least ≤ most))) box

-- a box of a search: a span for each module, none of them empty, with low least counts
pub record IsSearchBox (links : List Link) (n : ℕ) (box : TreeBox) : Type 0 where
  pub shape : AreCounts links (least_counts box)
  pub some : HaveCounts box
  pub low : AreLow n box

-- a certificate with its value for the box, which is at least the value of the plan's certificate
pub record IsValued (p : Case) (plan : Plan) (tested : List Tested) (box : TreeBox) (v : Valued) : Type 0 where
  pub has : HasBoxValue (names_by tested false) p.links box v.cert v.value
  pub least : (value : ℕ) → HasPlanValue p.links plan.certificate box value → value ≤ v.value

-- a split with its cause, or a leaf that isn't open
abbrev pub IsSettledNode : Case → Plan → List CutLine → TreeBox → Node → Type 0
IsSettledNode p plan handed box (Split link at_module number) =
    (entry (module_costs p.links) link.0 at_module * number < plan.cost) × IsUnsettled p.links plan handed box
IsSettledNode p plan handed box (Closed cert) = Unit {0}
IsSettledNode p plan handed box (Empty cut) = Unit {0}
IsSettledNode p plan handed box (Spent cert) = ⊥
IsSettledNode p plan handed box (Stuck cert evidence) = ⊥

-- an open box: it is worth less than the plan, isn't settled at once, and has several choices of counts
pub record IsOpenBox (p : Case) (plan : Plan) (handed : List CutLine) (tested : List Tested) (n : ℕ) (box : TreeBox) (o : OpenBox) : Type 0 where
  pub same : o.boxed ≡ box
  pub search_box : IsSearchBox p.links n box
  pub valued : IsValued p plan tested box o.best
  pub below : o.best.value < plan.cost
  pub unsettled : IsUnsettled p.links plan handed box
  pub unfixed : IsFixedBox box → ⊥

-- evidence that a number is too wide at the single choice of counts of a box, which is worth less than the plan
pub record IsStuckBox (p : Case) (plan : Plan) (tested : List Tested) (box : TreeBox) (v : Valued) (evidence : Evidence) : Type 0 where
  pub valued : IsValued p plan tested box v
  pub below : v.value < plan.cost
  pub fixed : IsFixedBox box
  pub form : IsEvidenceAt p (least_counts box) evidence
  pub wide : IsWideSomewhere p (whole_caps (capacities p.links (least_counts box))) evidence

-- what is known of the box at a place of a tree
abbrev pub IsTwigOf : Case → Plan → List CutLine → List Tested → ℕ → TreeBox → Twig → Type 0
IsTwigOf p plan handed tested n box (twig.Settled node) =
    HoldsNode (names_by tested false) p plan.cost box node × IsSettledNode p plan handed box node
IsTwigOf p plan handed tested n box (twig.Stuck v evidence) = IsStuckBox p plan tested box v evidence
IsTwigOf p plan handed tested n box (twig.Open o) = IsOpenBox p plan handed tested n box o

-- what is found at a box
abbrev pub IsFoundAt : Case → Plan → List CutLine → List Tested → ℕ → TreeBox → Found → Type 0
IsFoundAt p plan handed tested n box (found.Twig t) = IsTwigOf p plan handed tested n box t × IsLeafTwig t
IsFoundAt p plan handed tested n box (found.Cheaper c) = AreCheaperCounts p plan.cost c
