-- what is answered about counts
use Rattle.std.specs.Prelude.{ℕ, ◌+◌, List, MatchResult, Result}
use Rattle.plan_terms.specs.Terms.{Case, capacities, total_cost}
use Rattle.plan_swaps.specs.Terms.{IsStopAt, whole_caps, Stop}
use Rattle.tree_boxes.{specs.declared.evaluation.Tried.Tried, specs.declared.found.Cheaper.Cheaper, specs.Finds.AreCheaperCounts}
use Rattle.tree_boxes.specs.declared.evaluation.Tried.TheVariants as tried

-- the answer about counts: lower ones in form that carry the demands and cost no more, or what stops them
abbrev pub IsAnswerTo : Case → List (List ℕ) → Result Cheaper Stop → Type 0
IsAnswerTo p counts asked = MatchResult asked (AreCheaperCounts p (total_cost p.links counts + 1)) (IsStopAt p (whole_caps (capacities p.links counts)))

-- what comes of a whole point: counts that carry the demands and cost less than so much; nothing is said of the other results
abbrev pub IsTriedTo : Case → ℕ → Tried → Type 0
IsTriedTo p cost (tried.Cheaper c) = AreCheaperCounts p cost c
IsTriedTo p cost tried.More = Unit {0}
IsTriedTo p cost tried.Nothing = Unit {0}
