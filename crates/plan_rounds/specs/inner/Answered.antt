-- what is found of the answers of all states
use Rattle.std.specs.Prelude.{◌≡◌, ◌≢◌, ℕ, ◌<◌, ◌≤◌, ◌⊎◌, ◌++◌, List, [], ◌∷◌, None, Some, All, AllPairs, Contains, IfSome, length, slice_get}
use Rattle.plan_terms.specs.Terms.{Evidence, Entry, Caps, Routing, Case, graph_in, HasShortLengths}
use Rattle.turn_lock.specs.Passes.{Seen}
use Rattle.separator.{specs.Separators.{AreRoundAnswers, SeparatesAt, cuts_answered, cuts_since}, specs.Terms.{IsEvidenceHere, IsRouted, IsSeparatingCut}, specs.declared.answers.Separated.Separated, specs.declared.answers.Separated.TheVariants.{Routed, Violated, Wide}, specs.declared.answers.StateAnswer.StateAnswer}
use Rattle.plan_rounds.{specs.WorkedRounds.StandAtSpots, specs.declared.sorted_answers.Answered.Answered}

-- the answer of one state is added to those before it
abbrev pub PutsAnswer : Separated → Answered → Answered → Type 0
PutsAnswer (Routed routing) old new = new ≡ record { routings = old.routings ++ routing ∷ []; found = old.found; wide = old.wide }
PutsAnswer (Violated line spot) old new =
    new ≡ record { routings = old.routings; found = record { lines = old.found.lines ++ line ∷ []; spots = old.found.spots ++ spot ∷ [] }; wide = old.wide }
PutsAnswer (Wide evidence) old new = new ≡ record { routings = old.routings; found = old.found; wide = Some evidence }

-- the lengths of a cut that is answered are below 2^32
abbrev pub AnswersShort : Separated → Type 0
AnswersShort (Routed routing) = Unit {0}
AnswersShort (Violated line spot) = HasShortLengths line
AnswersShort (Wide evidence) = Unit {0}

module _ (p : Case) (caps : Caps) where
  -- it is evidence of a state, `none` or a listed one, at the capacities
  abbrev pub IsEvidenceOfState : Evidence → Type 0
  IsEvidenceOfState evidence = (s : ℕ) × (s ≤ length p.listed) × IsEvidenceHere (graph_in p s) p.demands caps evidence

  -- the state is routed within the capacities, or there is evidence that a number of it is too wide
  abbrev pub IsRoutedOrWide : ℕ → Type 0
  IsRoutedOrWide s = ((r : Routing) × IsRouted (graph_in p s) p.demands caps r)
      ⊎ ((evidence : Evidence) × IsEvidenceHere (graph_in p s) p.demands caps evidence)

  -- one routing for each of the first n states, within the capacities
  pub record AreRoutedStates (n : ℕ) (routings : List Routing) : Type 0 where
    pub count : length routings ≡ n
    pub each : (s : ℕ) (r : Routing) → slice_get routings s ≡ Some r → IsRouted (graph_in p s) p.demands caps r

module _ (p : Case) (caps : Caps) (history : List Entry) where
  -- The answers of the first n states: cuts of different states, each with its spot, and evidence of one state where one is wide. Where
  -- there is no cut, each state is routed or wide, and where there is no evidence either, each is routed.
  pub record AreSorted (n : ℕ) (a : Answered) : Type 0 where
    pub cuts : All (IsSeparatingCut p caps) a.found.lines
    pub short : All HasShortLengths a.found.lines
    pub states : AllPairs (λ x y. x.state ≢ y.state) a.found.lines
    pub before : All (λ c. c.state.0 < n) a.found.lines
    pub spots : StandAtSpots history a.found.lines a.found.spots
    pub wide : IfSome a.wide (IsEvidenceOfState p caps)
    pub cutless : length a.found.lines ≡ 0 → (s : ℕ) → s < n → IsRoutedOrWide p caps s
    pub routed : length a.found.lines ≡ 0 → a.wide ≡ None → AreRoutedStates p caps n a.routings

-- the answers of a round; what the separator has pooled since are cuts of different states that the capacities violate, and all of them are
-- answered
pub record AreAnswers (p : Case) (caps : Caps) (old new : Seen Entry) (answers : List StateAnswer) : Type 0 where
  pub round : ∥ AreRoundAnswers p caps new.history answers ∥₁
  pub separating : ∥ All (SeparatesAt p caps) (cuts_since old new) ∥₁
  pub different : AllPairs (λ x y. x.0 ≢ y.0) (cuts_since old new)
  pub among : All (Contains (cuts_answered answers)) (cuts_since old new)
