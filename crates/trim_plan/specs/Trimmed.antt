-- plans from which no module can be spared, and what keeps each module
use Rattle.std.{specs.Prelude.{◌≡◌, ℕ, zero, suc, ◌+◌, ◌-◌, ◌^◌, ◌≤◌, ◌++◌, List, [], ◌∷◌, All, map, slice_index, slice_index_or, slice_set}, specs.List.AllZip}
use Rattle.plan_terms.specs.Terms.{Case, capacities}
use Rattle.plan_types.specs.Terms.{IsCarryingPlan, IsCostedPlan}
use Rattle.plan_report.specs.Terms.{IsPlanInForm, known_to, Plan}
use Rattle.route_law.specs.Terms.{IsLowestRouting}
use Rattle.able_counts.specs.AbleTests.{IsStopAt, whole_caps}
use Rattle.trim_plan.{specs.declared.dearest.Priced.Priced, specs.declared.trimmed_plan.Block.Block, specs.declared.trimmed_plan.Trimmed.Trimmed}

-- ---- counts

-- the count of module m of link e
abbrev pub module_count : List (List ℕ) → ℕ → ℕ → ℕ
module_count counts e m = slice_index (slice_index_or counts e []) m

-- the counts with that of module m of link e lowered by 1
abbrev pub one_less : List (List ℕ) → ℕ → ℕ → List (List ℕ)
one_less counts e m = slice_set counts e (slice_set (slice_index_or counts e []) m (module_count counts e m - 1))

-- as many counts, each of them at most the one in the other list
abbrev pub AreAtMost : List (List ℕ) → List (List ℕ) → Type 0
AreAtMost fewer counts = AllZip (AllZip ◌≤◌) fewer counts

-- the modules of link e that have a positive count, from module m on, in their order
abbrev pub modules_in_use : ℕ → ℕ → List ℕ → List (ℕ × ℕ)
modules_in_use e m [] = []
modules_in_use e m (zero ∷ counts) = modules_in_use e (m + 1) counts
modules_in_use e m (suc n ∷ counts) = (e, m) ∷ modules_in_use e (m + 1) counts

-- the modules of positive count of link e and the links after it, in link and module order
abbrev pub links_in_use : ℕ → List (List ℕ) → List (ℕ × ℕ)
links_in_use e [] = []
links_in_use e (counts ∷ rest) = modules_in_use e 0 counts ++ links_in_use (e + 1) rest

-- the rank of a module by its cost: the dearer it is, the less
abbrev pub price_rank : Priced → ℕ
price_rank p = 2 ^ 64 - 1 - p.cost

-- ---- blocks

-- with one module less, the capacities violate the block's cut, or its evidence holds for them at the scale 1
abbrev pub IsBlockAt : Case → List (List ℕ) → Block → Type 0
IsBlockAt p counts b = IsStopAt p (whole_caps (capacities p.links (one_less counts b.link.0 b.module))) b.why

-- counts are trimmed by a list of blocks, one for each module of positive count, in link and module order
pub record IsTrimmedBy (p : Case) (counts : List (List ℕ)) (blocks : List Block) : Type 0 where
  pub places : map (λ b. (b.link.0, b.module)) blocks ≡ links_in_use 0 counts
  pub blocked : All (IsBlockAt p counts) blocks

-- ---- plans

-- a plan whose routings carry the demands in each state, at the cost of its counts, in form and in lowest terms
pub record IsRoutedPlan (p : Case) (plan : Plan) : Type 0 where
  pub carrying : IsCarryingPlan p plan
  pub costed : IsCostedPlan p plan
  pub form : IsPlanInForm (known_to p) plan
  pub lowest : All IsLowestRouting plan.routings

-- The result of trimming a plan: the given plan with other counts, cost and routings, from which no module can be spared. No count is greater, and the cost
-- isn't either.
pub record IsTrimming (p : Case) (given : Plan) (t : Trimmed) : Type 0 where
  pub same : t.plan ≡ record given { counts = t.plan.counts; cost = t.plan.cost; routings = t.plan.routings }
  pub routed : IsRoutedPlan p t.plan
  pub fewer : AreAtMost t.plan.counts given.counts
  pub cheaper : t.plan.cost ≤ given.cost
  pub trimmed : IsTrimmedBy p t.plan.counts t.blocks
