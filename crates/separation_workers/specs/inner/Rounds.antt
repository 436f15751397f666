-- what the workers of a round find
use Rattle.std.specs.Prelude.{◌≡◌, ℕ, ◌<◌, ◌+◌, ◌⊎◌, ◌++◌, List, [], ◌∷◌, Option, All, IfSome, length}
use Rattle.plan_terms.specs.Terms.{graph_in, case_of}
use Rattle.separator.{specs.Terms.{RouteAnswer, IsFinding, cut_answered}, specs.declared.answers.StateAnswer.StateAnswer}
use Rattle.board_desk.{specs.declared.caller.Caller.Caller, specs.Turns.{IsAtDesk, board_made}}
use Rattle.separation_workers.{specs.Callers.HasSeenHistory, specs.declared.round.Round.Round, specs.declared.round.StateFound.StateFound}

-- the answer is right for state s at the capacities of the round
abbrev pub IsFoundOf : Round → ℕ → RouteAnswer → Type 0
IsFoundOf r s answer = IsFinding (graph_in (case_of r.instance) s) r.instance.demands.now r.caps.now answer

-- it is a state of the round, and its answer is right
abbrev pub IsStateFound : Round → StateFound → Type 0
IsStateFound r found = (found.state.0 < length r.instance.states.now.listed + 1) × IsFoundOf r found.state.0 found.answer

-- each place is empty, or has a right answer of a state of the round
abbrev pub AreFound : Round → List (Option StateFound) → Type 0
AreFound r places = All (λ place. IfSome place (IsStateFound r)) places

-- a caller at a desk of the round's network and states, which has seen a history of these
pub record IsInRound (r : Round) (c : Caller) : Type 0 where
  pub own : IsAtDesk c
  pub seen : HasSeenHistory c
  pub net : (board_made c).net.now ≡ r.instance.net.now
  pub states : (board_made c).states.now ≡ r.instance.states.now

-- an answer that is a cut goes to the end of the cuts, another one to the end of the others
abbrev pub IsPutApart : StateAnswer → (cuts cuts_now others others_now : List StateAnswer) → Type 0
IsPutApart a cuts cuts_now others others_now =
    ((length (cut_answered a.answer) ≡ 1) × (cuts_now ≡ cuts ++ a ∷ []) × (others_now ≡ others))
    ⊎ ((cut_answered a.answer ≡ []) × (cuts_now ≡ cuts) × (others_now ≡ others ++ a ∷ []))
