-- the cuts of a planning, as they are added to its list
use Rattle.std.specs.Prelude.{◌≡◌, ℕ, ◌^◌, ◌<◌, ◌⊎◌, ◌++◌, List, [], ◌∷◌, All, Some, length, slice_get}
use Rattle.net_core.specs.declared.instance.Instance.{Instance}
use Rattle.plan_terms.specs.Terms.{Demand, Entry, CutLine, Case, case_of, IsCut}
use Rattle.plan_types.{specs.declared.certificate.Spot.Spot, specs.declared.certificate.Spot.TheVariants.Pool}
use Rattle.metric_cut.{specs.Cuts.IsLineAt, specs.declared.cut.Cut.Cut}
use Rattle.plan_law.specs.WorkedLists.{AreDifferentCuts, HasCut, Lacks}
use Rattle.turn_lock.specs.Passes.{Seen}
use Rattle.separator.specs.Separators.{Frame, SeesMore}
use Rattle.plan_rounds.{specs.WorkedRounds.StandAtSpots, specs.declared.candidates.Candidates.Candidates}

-- the separator has the network, states and mark that it had, and has seen further entries, of which its own are pooled cuts
pub record GoesOn {M : Type 0} (frame frame_now : Frame M) (old new : Seen Entry) : Type 0 where
  pub same : frame_now ≡ frame
  pub more : SeesMore old new

-- cuts of the case with right sides below 2^84, all different, each with its spot in the history
pub record AreListed (p : Case) (history : List Entry) (c : Candidates) : Type 0 where
  pub cuts : All (IsCut p) c.lines
  pub low : All (λ l. l.right < 2 ^ 84) c.lines
  pub different : AreDifferentCuts c.lines
  pub spots : StandAtSpots history c.lines c.spots

-- the separator is one of the instance's network and states, and the cuts are listed for the history that it has seen
pub record IsPlanning {M : Type 0} (instance : Instance) (frame : Frame M) (seen : Seen Entry) (c : Candidates) : Type 0 where
  pub network : instance.net.now ≡ frame.network
  pub states : instance.states.now ≡ frame.states
  pub listed : ∥ AreListed (case_of instance) seen.history c ∥₁

-- the spots of the first n cuts of a pool
pub record AreFirstSpots (n : ℕ) (spots : List Spot) : Type 0 where
  pub count : length spots ≡ n
  pub each : (i : ℕ) → i < n → slice_get spots i ≡ Some (Pool i)

-- the line is added with its spot, unless its cut is listed already
abbrev pub PutsLine : CutLine → Spot → Candidates → Candidates → Type 0
PutsLine line spot old new =
    (HasCut old.lines line.state.0 line.lengths × (new ≡ old))
    ⊎ (Lacks old.lines line × (new ≡ record { lines = old.lines ++ line ∷ []; spots = old.spots ++ spot ∷ [] }))

-- the cut's line is added, unless the cut is listed already
abbrev pub TakesCut : List Demand → Cut → List CutLine → List CutLine → Type 0
TakesCut demands cut old new =
    (HasCut old cut.state.0 cut.lengths × (new ≡ old))
    ⊎ ((line : CutLine) × IsLineAt demands cut line × Lacks old line × (new ≡ old ++ line ∷ []))

-- the cuts are taken one after another
abbrev pub TakesCuts : List Demand → List Cut → List CutLine → List CutLine → Type 0
TakesCuts demands [] old new = old ≡ new
TakesCuts demands (cut ∷ cuts) old new = (between : List CutLine) × TakesCut demands cut old between × TakesCuts demands cuts between new
