-- a routing in the making
use Rattle.std.specs.Prelude.{◌≡◌, ℕ, ◌+◌, ◌*◌, ◌<◌, ◌≤◌, ◌==◌, ◌⊎◌, ◌++◌, if◌then◌else◌, List, [], ◌∷◌, All, Any, Some, length, slice_get, slice_index}
use Rattle.plan_terms.specs.Terms.{Demand, LinkId, Flow, names_link, IsFlow, load, sent, IsPath}
use Rattle.greedy_router.{specs.Blocked.IsBlocked, specs.declared.draft.Draft.Draft, specs.inner.FullLinks.positives}

-- one flow of demand k more, which ends the demand's rest or fills a link
pub record Sends (k : ℕ) (path : List LinkId) (old new : Draft) : Type 0 where
  pub num : ℕ
  pub positive : 0 < num
  pub flows : new.flows ≡ old.flows ++ record { demand = k; path = path; num = num } ∷ []
  pub rests : length new.rest ≡ length old.rest
  pub links : length new.spares ≡ length old.spares
  pub rest : (j : ℕ) → slice_index new.rest j + (if k == j then num else 0) ≡ slice_index old.rest j
  pub spares : (e : ℕ) → slice_index new.spares e + (if names_link e path then num else 0) ≡ slice_index old.spares e
  pub ends : (slice_index new.rest k ≡ 0) ⊎ Any (λ e. slice_index new.spares e.0 ≡ 0) path

-- a flow of a demand that has a rest, along links that aren't full
pub record SendsOpen (k : ℕ) (path : List LinkId) (old new : Draft) : Type 0 where
  pub missing : 0 < slice_index old.rest k
  pub open_links : All (λ e. 0 < slice_index old.spares e.0) path
  pub sends : Sends k path old new

-- a flow of demand k
pub record IsFlowOf (joins : ℕ → ℕ → ℕ → Type 0) (k : ℕ) (d : Demand) (f : Flow) : Type 0 where
  pub demand : f.demand ≡ k
  pub positive : 0 < f.num
  pub path : IsPath joins d.from.0 d.to.0 f.path

-- flows of demand k more, each of which ends the demand's rest or fills a link
pub record Adds (joins : ℕ → ℕ → ℕ → Type 0) (k : ℕ) (d : Demand) (old new : Draft) : Type 0 where
  pub added : List Flow
  pub flows : new.flows ≡ old.flows ++ added
  pub each : All (IsFlowOf joins k d) added
  pub rests : length new.rest ≡ length old.rest
  pub links : length new.spares ≡ length old.spares
  pub rest : (j : ℕ) → slice_index new.rest j + sent added j ≡ slice_index old.rest j
  pub spares : (e : ℕ) → slice_index new.spares e + load added e ≡ slice_index old.spares e
  pub few : length added + (positives new.spares + positives new.rest) ≤ positives old.spares + positives old.rest

-- flows and rests are the needs, flows and spares the capacities
pub record IsDraft (joins : ℕ → ℕ → ℕ → Type 0) (demands : List Demand) (scale : ℕ) (nums : List ℕ) (draft : Draft) : Type 0 where
  pub flows : All (IsFlow joins demands) draft.flows
  pub rests : length draft.rest ≡ length demands
  pub links : length draft.spares ≡ length nums
  pub met : (k : ℕ) (d : Demand) → slice_get demands k ≡ Some d → sent draft.flows k + slice_index draft.rest k ≡ d.need * scale
  pub spares : (e : ℕ) → load draft.flows e + slice_index draft.spares e ≡ slice_index nums e
  pub few : length draft.flows + (positives draft.spares + positives draft.rest) ≤ length nums + length demands

-- demand k has no rest, or no path of links with spare capacity
abbrev pub IsEnded : (ℕ → ℕ → ℕ → Type 0) → List Demand → Draft → ℕ → Type 0
IsEnded joins demands draft k = (d : Demand) → slice_get demands k ≡ Some d → 0 < slice_index draft.rest k
    → IsBlocked joins (λ e. 0 < slice_index draft.spares e) d.from.0 d.to.0

-- a draft in which these demands have been routed
pub record AreRouted (joins : ℕ → ℕ → ℕ → Type 0) (demands : List Demand) (scale : ℕ) (nums : List ℕ) (done : List ℕ) (draft : Draft) : Type 0 where
  pub whole : IsDraft joins demands scale nums draft
  pub ended : All (IsEnded joins demands draft) done
