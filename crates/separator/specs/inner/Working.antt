-- a board while cuts are put into its pool
use Rattle.std.specs.Prelude.{◌≡◌, ◌≢◌, ℕ, ◌+◌, ◌≤◌, ◌<◌, ◌⊎◌, ◌++◌, List, [], ◌∷◌, All, AllPairs, Contains, Some, length, slice_get}
use Rattle.plan_terms.specs.Terms.{Entry, Caps, Case, graph_in}
use Rattle.metric_cut.specs.declared.cut.Cut.{Cut}
use Rattle.cut_pool.{specs.declared.board.Board.Board, specs.Terms.{origin_of, cuts_of}}
use Rattle.separator.{specs.declared.answers.StateAnswer.StateAnswer, specs.declared.answers.Separated.Separated, specs.Findings.IsFoundCutOf, specs.Separators.{IsAnswerOf, IsCutEntry, IsFullHistory, SeparatesAt, cut_answered, cuts_after, cuts_answered}}

-- state and lengths of a cut
abbrev pub state_and_lengths : Cut → ℕ × List ℕ
state_and_lengths cut = (cut.state.0, cut.lengths)

-- The board has some more entries, which pool these cuts, and its origin is as it was. A full history gets no entry.
pub record PoolsMore (old new : Board) (cuts : List (ℕ × List ℕ)) : Type 0 where
  pub origin : origin_of new ≡ origin_of old
  pub more : List Entry
  pub entries : new.entries ≡ old.entries ++ more
  pub pooled : All IsCutEntry more
  pub are : cuts_of more ≡ cuts
  pub full : IsFullHistory old.entries → more ≡ []

-- the board pools nothing more, or this cut
abbrev pub PoolsOnly : Board → Board → ℕ × List ℕ → Type 0
PoolsOnly old new cut = PoolsMore old new [] ⊎ PoolsMore old new (cut ∷ [])

-- cuts of state s, at most one, which the capacities violate
pub record AreCutsOf (p : Case) (caps : Caps) (s : ℕ) (cuts : List (ℕ × List ℕ)) : Type 0 where
  pub few : length cuts ≤ 1
  pub of : All (λ c. c.0 ≡ s) cuts
  pub separating : All (SeparatesAt p caps) cuts

-- cuts of the states below n, at most one of each, which the capacities violate
pub record AreCutsBelow (p : Case) (caps : Caps) (n : ℕ) (cuts : List (ℕ × List ℕ)) : Type 0 where
  pub below : All (λ c. c.0 < n) cuts
  pub different : AllPairs (λ x y. x.0 ≢ y.0) cuts
  pub separating : All (SeparatesAt p caps) cuts

-- the board pools such cuts
pub record PoolsBelow (p : Case) (caps : Caps) (n : ℕ) (old new : Board) (cuts : List (ℕ × List ℕ)) : Type 0 where
  pub pools : PoolsMore old new cuts
  pub cuts_are : AreCutsBelow p caps n cuts

-- the board pools cuts of state s, at most one
pub record PoolsOf (p : Case) (caps : Caps) (s : ℕ) (old new : Board) (cuts : List (ℕ × List ℕ)) : Type 0 where
  pub pools : PoolsMore old new cuts
  pub cuts_are : AreCutsOf p caps s cuts

-- so it does at any capacities at which this cut is found of state s
abbrev pub PoolsFound : Case → ℕ → Cut → (old new : Board) → Type 0
PoolsFound p s cut old new = (caps : Caps) → IsFoundCutOf (graph_in p s) p.demands caps cut → PoolsOf p caps s old new (cuts_after old.entries new.entries)

-- the right answer of state s at any capacities at which this cut is found of the state
abbrev pub AnswersFound : Case → ℕ → Cut → List Entry → Separated → Type 0
AnswersFound p s cut history answer = (caps : Caps) → IsFoundCutOf (graph_in p s) p.demands caps cut → IsAnswerOf p caps history s answer

-- the answers of the states below n, among which each of these cuts is
pub record AreAnswersBelow (p : Case) (caps : Caps) (n : ℕ) (history : List Entry) (cuts : List (ℕ × List ℕ)) (answers : List StateAnswer) : Type 0 where
  pub count : length answers ≡ n
  pub each : (s : ℕ) (a : StateAnswer) → slice_get answers s ≡ Some a → (a.state.0 ≡ s) × IsAnswerOf p caps history s a.answer
  pub among : All (Contains (cuts_answered answers)) cuts

-- cuts of different states below n are answered, and each of these cuts is one of them
pub record AreCutsAnswered (p : Case) (caps : Caps) (n : ℕ) (history : List Entry) (cuts : List (ℕ × List ℕ)) (answers : List StateAnswer) : Type 0 where
  pub below : All (λ a. a.state.0 < n) answers
  pub different : AllPairs (λ x y. x.state.0 ≢ y.state.0) answers
  pub right : All (λ a. IsAnswerOf p caps history a.state.0 a.answer) answers
  pub are_cuts : length (cuts_answered answers) ≡ length answers
  pub among : All (Contains (cuts_answered answers)) cuts

-- the answers of the states from m on to before n, in their order; none of them is a cut, so they hold at any history
pub record AreOtherAnswers (p : Case) (caps : Caps) (m n : ℕ) (answers : List StateAnswer) : Type 0 where
  pub count : m + length answers ≡ n
  pub each : (history : List Entry) (i : ℕ) (a : StateAnswer) → slice_get answers i ≡ Some a → (a.state.0 ≡ m + i) × IsAnswerOf p caps history (m + i) a.answer
  pub none : cuts_answered answers ≡ []

-- they go on with those from n on to before t
abbrev pub ContinueTo : Case → Caps → (n t : ℕ) → (old new : List StateAnswer) → Type 0
ContinueTo p caps n t old new = (m : ℕ) → AreOtherAnswers p caps m n old → AreOtherAnswers p caps m t new

-- the answer of state s is a cut, and each of these cuts is it
pub record IsCutAnswer (p : Case) (caps : Caps) (s : ℕ) (history : List Entry) (cuts : List (ℕ × List ℕ)) (a : StateAnswer) : Type 0 where
  pub state : a.state.0 ≡ s
  pub answer : IsAnswerOf p caps history s a.answer
  pub one : length (cut_answered a.answer) ≡ 1
  pub among : All (Contains (cut_answered a.answer)) cuts

-- nothing is answered of state s, and there is none of these cuts, or a cut is answered
abbrev pub AddsCut : Case → Caps → ℕ → List Entry → List (ℕ × List ℕ) → (old new : List StateAnswer) → Type 0
AddsCut p caps s history cuts old new = ((new ≡ old) × (cuts ≡ [])) ⊎ ((a : StateAnswer) × (new ≡ old ++ a ∷ []) × IsCutAnswer p caps s history cuts a)
