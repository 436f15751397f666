-- what a separator has seen of a history, what of it the separator has committed, and what it answers
use Rattle.std.{specs.Prelude.{◌≡◌, ◌≢◌, ℕ, ◌+◌, ◌<◌, ◌≤◌, ◌⊎◌, ◌++◌, List, [], ◌∷◌, All, AllPairs, Some, drop, length, slice_get, take}, specs.List.flat_map}
use Rattle.plan_terms.specs.Terms.{Entry, Edited, Pooled, Network, Caps, CutLine, States, Case, graph_in, case, IsCut, Keeps, Violates}
use Rattle.plan_types.{specs.declared.certificate.Spot.Spot, specs.declared.certificate.Spot.TheVariants.{Pool, Local}}
use Rattle.route_law.specs.Terms.{ArePricedSomewhere}
use Rattle.warm_routing.specs.Terms.{IsEvidenceHere, IsRouted}
use Rattle.turn_lock.specs.Passes.{Seen}
use Rattle.cut_pool.specs.Terms.{IsLegalAfter, cut_of_line, cuts_of}
use Rattle.net_core.specs.Limits.{most_cuts, most_entries}
use Rattle.separator.{specs.declared.answers.Separated.Separated, specs.declared.answers.Separated.TheVariants.{Routed, Violated, Wide}, specs.declared.answers.StateAnswer.StateAnswer}

-- ---- what a separator has seen, and what it commits

-- what no call of a separator changes: its network, its states, and a mark
pub record Frame (M : Type 0) : Type 0 where
  pub network : Network
  pub states : States
  pub mark : M

-- some of the items, in their order
abbrev pub IsPartOf : {X : Type 0} → List X → List X → Type 0
IsPartOf [] ys = Unit {0}
IsPartOf (x ∷ xs) [] = ⊥
IsPartOf (x ∷ xs) (y ∷ ys) = ((x ≡ y) × IsPartOf xs ys) ⊎ IsPartOf (x ∷ xs) ys

-- the entry pools a cut
abbrev pub IsCutEntry : Entry → Type 0
IsCutEntry (Edited caller edit reply) = ⊥
IsCutEntry (Pooled index state lengths) = Unit {0}

-- A history that a separator has seen, and the separator's own entries in it. It keeps its limits, and each cut that it pools has
-- lengths that a state of the case keeps, differs in state or lengths from all before it, and has their number as its index.
pub record IsSeenHistory (net : Network) (states : States) (seen : Seen Entry) : Type 0 where
  pub few : length seen.history ≤ most_entries
  pub few_cuts : length (cuts_of seen.history) ≤ 4096
  pub legal : (n : ℕ) (e : Entry) → slice_get seen.history n ≡ Some e → IsCutEntry e → IsLegalAfter (case net states []) (take n seen.history) e
  pub own_among : IsPartOf seen.own seen.history

-- A separator has seen some more entries, and has committed some of them, each of which pools a cut.
pub record SeesMore (old new : Seen Entry) : Type 0 where
  pub further : List Entry
  pub seen : new.history ≡ old.history ++ further
  pub committed : List Entry
  pub own_is : new.own ≡ old.own ++ committed
  pub among : IsPartOf committed further
  pub pooled : All IsCutEntry committed

-- the cuts that are pooled by the entries that have come after others
abbrev pub cuts_after : List Entry → List Entry → List (ℕ × List ℕ)
cuts_after before entries = cuts_of (drop (length before) entries)

-- the cuts that the separator has pooled since
abbrev pub cuts_since : (old new : Seen Entry) → List (ℕ × List ℕ)
cuts_since old new = cuts_after old.own new.own

-- ---- the spot of a cut

-- a history that takes no further cut: it pools 4,096, or has 65,536 entries
abbrev pub IsFullHistory : List Entry → Type 0
IsFullHistory history = (length (cuts_of history) ≡ most_cuts) ⊎ (length history ≡ most_entries)

-- the history pools the cut at this index, or takes no further cut and doesn't pool this one
abbrev pub IsSpotIn : List Entry → ℕ × List ℕ → Spot → Type 0
IsSpotIn history cut (Pool i) = slice_get (cuts_of history) i ≡ Some cut
IsSpotIn history cut Local = IsFullHistory history × All (λ c. c ≢ cut) (cuts_of history)

-- ---- what is answered

-- A cut of the case, with its right side at the demands, that the capacities violate; its lengths are what the state keeps of
-- priced ones.
pub record IsSeparatingCut (p : Case) (caps : Caps) (line : CutLine) : Type 0 where
  pub cut : IsCut p line
  pub violated : Violates caps line
  pub lengths : List ℕ
  pub priced : ArePricedSomewhere lengths
  pub keeps : Keeps (graph_in p line.state.0) lengths line.lengths

-- the state and lengths of such a cut
pub record SeparatesAt (p : Case) (caps : Caps) (cut : ℕ × List ℕ) : Type 0 where
  pub line : CutLine
  pub same : cut_of_line line ≡ cut
  pub separating : IsSeparatingCut p caps line

-- what is found of state s: a routing, a cut of the state with its spot, or evidence of the state
abbrev pub IsAnswerOf : Case → Caps → List Entry → ℕ → Separated → Type 0
IsAnswerOf p caps history s (Routed routing) = IsRouted (graph_in p s) p.demands caps routing
IsAnswerOf p caps history s (Violated line spot) = (line.state.0 ≡ s) × IsSeparatingCut p caps line × IsSpotIn history (cut_of_line line) spot
IsAnswerOf p caps history s (Wide evidence) = IsEvidenceHere (graph_in p s) p.demands caps evidence

-- one answer for each state, in their order
pub record AreStateAnswers (p : Case) (caps : Caps) (history : List Entry) (answers : List StateAnswer) : Type 0 where
  pub count : length answers ≡ length p.listed + 1
  pub each : (s : ℕ) (a : StateAnswer) → slice_get answers s ≡ Some a → (a.state.0 ≡ s) × IsAnswerOf p caps history s a.answer

-- the cut that is answered of a state, if one is
abbrev pub cut_answered : Separated → List (ℕ × List ℕ)
cut_answered (Routed routing) = []
cut_answered (Violated line spot) = cut_of_line line ∷ []
cut_answered (Wide evidence) = []

-- the cuts that are answered, in the order of the answers
abbrev pub cuts_answered : List StateAnswer → List (ℕ × List ℕ)
cuts_answered answers = flat_map (λ a. cut_answered a.answer) answers

-- cuts of different states that the capacities violate, one or more, with their spots
pub record AreViolatedStates (p : Case) (caps : Caps) (history : List Entry) (answers : List StateAnswer) : Type 0 where
  pub some : 0 < length answers
  pub different : AllPairs (λ x y. x.state.0 ≢ y.state.0) answers
  pub right : All (λ a. (a.state.0 ≤ length p.listed) × IsAnswerOf p caps history a.state.0 a.answer) answers
  pub cuts : length (cuts_answered answers) ≡ length answers

-- violated cuts of different states and nothing else, or one answer for each state, in their order, and none of them is a cut
abbrev pub AreAnswersUntilCut : Case → Caps → List Entry → List StateAnswer → Type 0
AreAnswersUntilCut p caps history answers =
    AreViolatedStates p caps history answers ⊎ (AreStateAnswers p caps history answers × (cuts_answered answers ≡ []))

-- the answers of a round, in which each state is asked, or states are asked until one is violated
abbrev pub AreRoundAnswers : Case → Caps → List Entry → List StateAnswer → Type 0
AreRoundAnswers p caps history answers = AreStateAnswers p caps history answers ⊎ AreViolatedStates p caps history answers
