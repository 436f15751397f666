-- the cuts of one planning: those that it begins with, and what its rounds find (cutting planes by rounds)
use Rattle.std.specs.Prelude.{◌≡◌, ◌≢◌, ℕ, ◌<◌, ◌≤◌, ◌⊎◌, ◌++◌, List, [], ◌∷◌, All, AllPairs, Any, Contains, length, take}
use Rattle.plan_terms.specs.Terms.{CutLine, Case, graph_in, IsCut, Keeps, AreOpening, Violates}
use Rattle.module_prices.specs.declared.cheapest.UnitPair.{UnitPair}
use Rattle.plan_types.specs.declared.quality.Share.{Share}
use Rattle.route_law.specs.Terms.{ArePricedSomewhere}
use Rattle.master_law.specs.Terms.{IsLeastShare, IsSameCut, AreUnitPairs, share_caps}

-- ---- the beginning

-- an opening cut of its state
pub record IsOpeningCut (p : Case) (cut : CutLine) : Type 0 where
  pub is_cut : IsCut p cut
  pub lengths : List (List ℕ)
  pub opening : AreOpening (graph_in p cut.state.0) lengths
  pub among : Contains lengths cut.lengths

-- the list has a cut of state s with these lengths
abbrev pub HasCut : List CutLine → ℕ → List ℕ → Type 0
HasCut cuts s lengths = Any (λ c. (c.state.0 ≡ s) × (c.lengths ≡ lengths)) cuts

-- the list has each opening cut of state s
pub record HasOpeningOf (p : Case) (cuts : List CutLine) (s : ℕ) : Type 0 where
  pub lengths : List (List ℕ)
  pub opening : AreOpening (graph_in p s) lengths
  pub each : All (λ ls. HasCut cuts s ls) lengths

-- cut a is of an earlier state than cut b, or a is the first and b the second opening cut of one state
abbrev pub OpensBefore : Case → CutLine → CutLine → Type 0
OpensBefore p a b =
    (a.state.0 < b.state.0) ⊎ ((a.state ≡ b.state) × AreOpening (graph_in p a.state.0) (a.lengths ∷ b.lengths ∷ []))

-- no cut of the list has state and lengths of this one
abbrev pub Lacks : List CutLine → CutLine → Type 0
Lacks cuts cut = All (λ c. IsSameCut cut c → ⊥) cuts

-- What a planning begins with: the snapshot's cuts, and then the opening cuts that it lacks, in the order of their states.
pub record IsBeginning (p : Case) (snapshot start : List CutLine) : Type 0 where
  pub opened : List CutLine
  pub whole : start ≡ snapshot ++ opened
  pub opening : All (IsOpeningCut p) opened
  pub lacking : All (Lacks snapshot) opened
  pub ordered : AllPairs (OpensBefore p) opened
  pub every : (s : ℕ) → s ≤ length p.listed → HasOpeningOf p start s

-- ---- the rounds

-- the cuts that a round finds, and the share at which it finds them
pub record Round : Type 0 where
  pub share : Share
  pub cuts : List CutLine

-- the list after some rounds, of which the last comes first
abbrev pub after_rounds : List CutLine → List Round → List CutLine
after_rounds start [] = start
after_rounds start (last ∷ earlier) = after_rounds start earlier ++ last.cuts

-- the first n cuts of a round
abbrev pub cut_short : ℕ → Round → Round
cut_short n round = record { share = round.share; cuts = take n round.cuts }

-- a cut of the case that the share's capacities violate, with lengths that its state keeps of priced ones
pub record IsFoundCut (p : Case) (pairs : List UnitPair) (share : Share) (cut : CutLine) : Type 0 where
  pub is_cut : IsCut p cut
  pub violated : Violates (share_caps p.links pairs share) cut
  pub lengths : List ℕ
  pub priced : ArePricedSomewhere lengths
  pub kept : Keeps (graph_in p cut.state.0) lengths cut.lengths

-- a round after a list: all its cuts are found at one least share of the list, and no two are of one state
pub record IsRound (p : Case) (pairs : List UnitPair) (before : List CutLine) (round : Round) : Type 0 where
  pub least : IsLeastShare p.links pairs before round.share
  pub found : All (IsFoundCut p pairs round.share) round.cuts
  pub states : AllPairs (λ a b. a.state ≢ b.state) round.cuts

-- each round is one after the list before it
abbrev pub AreRounds : Case → List UnitPair → List CutLine → List Round → Type 0
AreRounds p pairs start [] = Unit {0}
AreRounds p pairs start (last ∷ earlier) = IsRound p pairs (after_rounds start earlier) last × AreRounds p pairs start earlier

-- ---- the whole

-- no two cuts of the list have the same state and lengths
abbrev pub AreDifferentCuts : List CutLine → Type 0
AreDifferentCuts cuts = AllPairs (λ a b. IsSameCut a b → ⊥) cuts

-- A worked list of a snapshot: what the planning begins with, and the cuts of its rounds. Those added to the snapshot's are all different, and at most 4,096.
pub record IsWorkedList (p : Case) (pairs : List UnitPair) (snapshot : List CutLine) (rounds : List Round) (cuts : List CutLine) : Type 0 where
  pub units : AreUnitPairs p.links pairs
  pub start : List CutLine
  pub begins : IsBeginning p snapshot start
  pub are_rounds : AreRounds p pairs start rounds
  pub whole : cuts ≡ after_rounds start rounds
  pub added : List CutLine
  pub following : cuts ≡ snapshot ++ added
  pub few : length added ≤ 4096
  pub different : AreDifferentCuts added
