-- how the rounds of a planning end
use Rattle.std.specs.Prelude.{◌≡◌, ℕ, ◌+◌, ◌*◌, ◌^◌, ◌<◌, ◌≤◌, ◌⊎◌, List, [], ◌∷◌, Option, None, Some, All, IsSomeAnd, length, map, slice_get, take}
use Rattle.plan_terms.specs.Terms.{Evidence, Route, Master, RouteColumn, WideKind, Entry, Caps, CutLine, Routing, Case, graph_in, Joins, IsCut, Carries}
use Rattle.module_prices.specs.declared.cheapest.UnitPair.{UnitPair}
use Rattle.plan_types.{specs.declared.certificate.Spot.Spot, specs.declared.quality.Cause.Cause, specs.declared.quality.Cause.TheVariants.{Wide, Cuts}, specs.declared.quality.Fractional.Fractional, specs.declared.quality.Quality.Quality, specs.declared.quality.Quality.TheVariants.{Tight, Loose}}
use Rattle.route_law.specs.Terms.{IsRouteEvidence}
use Rattle.separator.specs.Terms.{IsRouted, IsSpotIn}
use Rattle.cut_pool.specs.Terms.{cut_of_line, cuts_of}
use Rattle.master_law.specs.Terms.{IsLeastShare, IsMasterEvidence, share_caps, share_cost}
use Rattle.master_bound.{specs.Answers.IsBestOf, specs.declared.answer.Best.Best}
use Rattle.plan_law.specs.Terms.{IsProperShare, Round, after_rounds, IsFoundCut, IsWorkedList}
use Rattle.turn_lock.specs.Passes.{Seen}
use Rattle.plan_rounds.specs.declared.rounds.Worked.{Worked}

-- ---- cuts and their spots

-- The lines are the cuts that the first entries of a history pool, in their order: cuts of the case, with right sides below 2^84.
pub record IsPoolOf (p : Case) (history : List Entry) (lines : List CutLine) : Type 0 where
  pub position : ℕ
  pub pooled : map cut_of_line lines ≡ cuts_of (take position history)
  pub cuts : All (IsCut p) lines
  pub low : All (λ c. c.right < 2 ^ 84) lines

-- one spot for each line: that of its cut in the history
pub record StandAtSpots (history : List Entry) (lines : List CutLine) (spots : List Spot) : Type 0 where
  pub count : length spots ≡ length lines
  pub each : (i : ℕ) (line : CutLine) (spot : Spot) → slice_get lines i ≡ Some line → slice_get spots i ≡ Some spot → IsSpotIn history (cut_of_line line) spot

-- ---- what a best certificate shows

module _ (p : Case) (pairs : List UnitPair) where
  -- a routing within the share carries the demands in the state, or a number of the state is too wide there
  abbrev pub IsCarriedOrWide : Best → ℕ → Type 0
  IsCarriedOrWide best s =
      ((r : Routing) × Carries (Joins (graph_in p s)) p.demands (share_caps p.links pairs best.share).scale (share_caps p.links pairs best.share).nums r)
      ⊎ ((basis : List RouteColumn) × (kind : WideKind RouteColumn) × IsRouteEvidence (graph_in p s) p.demands (share_caps p.links pairs best.share) basis kind)

  -- each state is carried within the share, or a number of it is too wide there
  abbrev pub AreCarriedOrWide : Best → Type 0
  AreCarriedOrWide best = (s : ℕ) → s ≤ length p.listed → IsCarriedOrWide best s

module _ (p : Case) (pairs : List UnitPair) (cuts : List CutLine) where
  -- the best certificate of the cuts, with a least share of theirs that costs its raw value
  pub record IsBestAt (best : Best) : Type 0 where
    pub of : IsBestOf p.links cuts best
    pub least : IsLeastShare p.links pairs cuts best.share
    pub raw : share_cost pairs best.share * best.raw_den ≡ best.raw_num * best.share.scale

  -- the share carries the demands: in each state a routing in lowest terms, at the share's own scale
  pub record IsCarriedAt (best : Best) (fractional : Fractional) : Type 0 where
    pub best_of : IsBestAt best
    pub share : fractional.share ≡ best.share
    pub proper : IsProperShare p.links fractional.share
    pub states : length fractional.routings ≡ length p.listed + 1
    pub routed : (s : ℕ) (r : Routing) → slice_get fractional.routings s ≡ Some r
        → IsRouted (graph_in p s) p.demands (share_caps p.links pairs fractional.share) r

  -- a number is too wide where a state is routed within the share
  pub record IsWideAt (best : Best) (s : ℕ) (caps : Caps) (basis : List RouteColumn) (kind : WideKind RouteColumn) : Type 0 where
    pub best_of : IsBestAt best
    pub listed_state : s ≤ length p.listed
    pub of_share : caps ≡ share_caps p.links pairs best.share
    pub evidence : IsRouteEvidence (graph_in p s) p.demands caps basis kind

  -- the share violates a further cut
  pub record ViolatesFurther (best : Best) : Type 0 where
    pub best_of : IsBestAt best
    pub further : CutLine
    pub found : IsFoundCut p pairs best.share further

  -- ---- how the rounds end: Full says that no cut may be added, and IsLast what is known of the best certificate before this list's

  -- Where no cut may be added, the end is loose by width in a state only if no state is refused for a cut.
  abbrev pub EndsByWidth : Type 0 → (Option Best → Type 0) → Option Best → Evidence → Type 0
  EndsByWidth Full IsLast best (Route state caps basis kind) = IsSomeAnd best (λ b. IsWideAt b state.0 caps basis kind × (Full → AreCarriedOrWide p pairs b))
  EndsByWidth Full IsLast best (Master basis kind) = IsMasterEvidence p.links pairs cuts basis kind × IsLast best

  abbrev pub EndsLoose : Type 0 → (Option Best → Type 0) → Option Best → Cause → Type 0
  EndsLoose Full IsLast best (Wide evidence) = EndsByWidth Full IsLast best evidence
  EndsLoose Full IsLast best Cuts = Full × IsSomeAnd best ViolatesFurther

  abbrev pub EndsBy : Type 0 → (Option Best → Type 0) → Option Best → Quality → Type 0
  EndsBy Full IsLast best (Tight fractional) = IsSomeAnd best (λ b. IsCarriedAt b fractional)
  EndsBy Full IsLast best (Loose cause) = EndsLoose Full IsLast best cause

-- ---- the whole

-- the best certificate of the cuts before the last round, whose share found that round's cuts; none where there is no round
abbrev pub IsBestOfLast : Case → List UnitPair → List CutLine → List Round → Option Best → Type 0
IsBestOfLast p pairs start [] best = best ≡ None
IsBestOfLast p pairs start (last ∷ earlier) best = IsSomeAnd best (λ b. (b.share ≡ last.share) × IsBestAt p pairs (after_rounds start earlier) b)

-- Rounds from the pool's cuts on: a worked list, the spots of its cuts in the history, and how the rounds end, tight or loose.
pub record AreWorkedRounds (p : Case) (history : List Entry) (pool : List CutLine) (w : Worked) : Type 0 where
  pub pairs : List UnitPair
  pub rounds : List Round
  pub list : IsWorkedList p pairs pool rounds w.lines
  pub low : All (λ c. c.right < 2 ^ 84) w.lines
  pub spots : StandAtSpots history w.lines w.spots
  pub ends : EndsBy p pairs w.lines (length w.lines ≡ length pool + 4096) (IsBestOfLast p pairs list.start rounds) w.best w.quality

-- the cuts that a history pools are, in their order, a worked list that begins with no known cut
pub record IsWorkedPool (p : Case) (history : List Entry) : Type 0 where
  pub pairs : List UnitPair
  pub rounds : List Round
  pub lines : List CutLine
  pub list : IsWorkedList p pairs [] rounds lines
  pub pooled : map cut_of_line lines ≡ cuts_of history

-- where the history was empty, and the separator alone has written it, what it pools is a worked list
abbrev pub IsWorkedAlone : Case → (old new : Seen Entry) → Type 0
IsWorkedAlone p old new = old.history ≡ [] → new.history ≡ new.own → ∥ IsWorkedPool p new.history ∥₁
