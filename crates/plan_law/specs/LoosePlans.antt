-- plans whose search for cuts ended early, and plans of either kind
use Rattle.std.specs.Prelude.{◌≡◌, ℕ, ◌+◌, ◌*◌, ◌^◌, ◌<◌, ◌≤◌, ◌⊎◌, List, [], ◌∷◌, All, Contains, Some, length, slice_get}
use Rattle.plan_terms.specs.Terms.{Evidence, Route, Master, RouteColumn, WideKind, Link, Caps, CutLine, Case, graph_in, capacities, modules_capacity}
use Rattle.module_prices.specs.declared.cheapest.UnitPair.{UnitPair}
use Rattle.plan_types.{specs.declared.plan.Plan.Plan, specs.declared.quality.Cause.Cause, specs.declared.quality.Cause.TheVariants.{Wide, Cuts}, specs.declared.quality.Quality.Quality, specs.declared.quality.Quality.TheVariants.{Tight, Loose}, specs.declared.quality.Share.Share}
use Rattle.route_law.specs.Terms.{IsRouteEvidence}
use Rattle.master_law.specs.Terms.{IsLeastShare, IsMasterEvidence, share_caps, share_cost}
use Rattle.plan_law.{specs.TightPlans.{CostsRawValue, CoversShare, IsTightPlan}, specs.WorkedLists.{Round, IsFoundCut, IsWorkedList}}

-- ---- by width

-- whole capacities, of counts that cover the share, of which no link's modules give 2^45 units or more
pub record AreCoverCaps (links : List Link) (pairs : List UnitPair) (share : Share) (caps : Caps) : Type 0 where
  pub counts : List (List ℕ)
  pub covers : CoversShare links pairs share counts
  pub small : (e : ℕ) (l : Link) (c : List ℕ) → slice_get links e ≡ Some l → slice_get counts e ≡ Some c → modules_capacity l.modules c < 2 ^ 45
  pub are : caps ≡ record { scale = 1; nums = capacities links counts }

-- the share's own capacities, or those of counts that cover it
abbrev pub AreCapsOfShare : List Link → List UnitPair → Share → Caps → Type 0
AreCapsOfShare links pairs share caps = (caps ≡ share_caps links pairs share) ⊎ AreCoverCaps links pairs share caps

-- a number is too wide where a state is routed at a least share of the cuts, which costs the raw value, or at counts that cover it
pub record IsWideInState (p : Case) (pairs : List UnitPair) (cuts : List CutLine) (plan : Plan) (s : ℕ) (caps : Caps) (basis : List RouteColumn)
    (kind : WideKind RouteColumn) : Type 0 where
  pub listed_state : s ≤ length p.listed
  pub share : Share
  pub least : IsLeastShare p.links pairs cuts share
  pub raw : CostsRawValue pairs share plan
  pub of_share : AreCapsOfShare p.links pairs share caps
  pub evidence : IsRouteEvidence (graph_in p s) p.demands caps basis kind

-- the raw value is at least the cost of the share that the last round's cuts were found at
abbrev pub KeepsUp : List UnitPair → List Round → Plan → Type 0
KeepsUp pairs [] plan = Unit {0}
KeepsUp pairs (last ∷ earlier) plan = share_cost pairs last.share * plan.raw_den ≤ plan.raw_num * last.share.scale

-- the evidence is of a state at a least share of the cuts, or of the cuts' own program
abbrev pub IsLooseByWidth : Case → List UnitPair → Plan → List Round → List CutLine → Evidence → Type 0
IsLooseByWidth p pairs plan rounds cuts (Route state caps basis kind) = IsWideInState p pairs cuts plan state.0 caps basis kind
IsLooseByWidth p pairs plan rounds cuts (Master basis kind) = IsMasterEvidence p.links pairs cuts basis kind × KeepsUp pairs rounds plan

-- ---- by the number of cuts

-- 4,096 cuts were added, and a least share of them all, which costs the raw value, violates a further one
pub record IsLooseByCuts (p : Case) (pairs : List UnitPair) (snapshot : List CutLine) (plan : Plan) (cuts : List CutLine) : Type 0 where
  pub full : length cuts ≡ length snapshot + 4096
  pub share : Share
  pub least : IsLeastShare p.links pairs cuts share
  pub raw : CostsRawValue pairs share plan
  pub further : CutLine
  pub found : IsFoundCut p pairs share further

-- ---- the whole

-- Loose: a number was too wide, or there was no room for a further cut.
abbrev pub IsLooseBy : Case → List UnitPair → List CutLine → Plan → List Round → List CutLine → Cause → Type 0
IsLooseBy p pairs snapshot plan rounds cuts (Wide evidence) = IsLooseByWidth p pairs plan rounds cuts evidence
IsLooseBy p pairs snapshot plan rounds cuts Cuts = IsLooseByCuts p pairs snapshot plan cuts

-- the quality of a plan is right: it is tight, or loose by this cause
abbrev pub HasQuality : Case → List UnitPair → List CutLine → Plan → List Round → List CutLine → Quality → Type 0
HasQuality p pairs snapshot plan rounds cuts (Tight fractional) = IsTightPlan p pairs plan fractional
HasQuality p pairs snapshot plan rounds cuts (Loose cause) = IsLooseBy p pairs snapshot plan rounds cuts cause

-- The plan comes of this worked list of the snapshot: all cuts of its certificate are in it, and it is tight, or loose by that list.
pub record IsWorkedPlan (p : Case) (snapshot cuts : List CutLine) (plan : Plan) : Type 0 where
  pub pairs : List UnitPair
  pub rounds : List Round
  pub worked : IsWorkedList p pairs snapshot rounds cuts
  pub certificate : All (λ l. Contains cuts l.cut) plan.certificate.lines
  pub quality : HasQuality p pairs snapshot plan rounds cuts plan.quality
