-- what people read of the outcomes of a report
use Rattle.std.specs.Prelude.{◌≡◌, ℕ, List, [], ◌∷◌, ◌++◌, codes, length}
use Rattle.plan_terms.specs.Terms.{AreDemands, Case, Problem, case}
use Rattle.plan_report.specs.Terms.{Outcome, Planned, Unsurvivable}
use Rattle.plan_view.specs.Terms.{IsSoundPlan, case_of_plan}
use Rattle.view_text.{specs.CostProofs.HoldsProof, specs.Headings.heading_text, specs.OutcomeCells.{HasOutcomes, numbers_text, separation_text}, specs.PlanViews.{IsCostView, IsPlanView}, specs.declared.proof.CostProof.CostProof, specs.declared.proof.CostProof.TheVariants.Nothing}

-- what is told of the cost holds of the plan
abbrev pub HoldsOfOutcome : Case → CostProof → Outcome → Type 0
HoldsOfOutcome p proof (Planned caller serial plan) = HoldsProof (case_of_plan p plan) plan proof
HoldsOfOutcome p proof (Unsurvivable caller serial version position state demand) = Unit {0}

-- what is told of the cost holds of a single plan; of several outcomes it tells nothing
abbrev pub HoldsOfSingle : Case → CostProof → List Outcome → Type 0
HoldsOfSingle p proof [] = Unit {0}
HoldsOfSingle p proof (outcome ∷ []) = HoldsOfOutcome p proof outcome
HoldsOfSingle p proof (outcome ∷ other ∷ outcomes) = Unit {0}

-- the view of one outcome: the tables of its plan, with the demands that it is of, or the line of its separation
abbrev pub IsOutcomeView : Case → CostProof → Outcome → List ℕ → Type 0
IsOutcomeView p proof (Planned caller serial plan) text = IsPlanView (case_of_plan p plan) plan proof text
IsOutcomeView p proof (Unsurvivable caller serial version position state demand) text = text ≡ separation_text p.listed state.0 demand

-- the view of one outcome of several, below the line of its numbers; what is known of a plan's cost isn't told there
pub record IsNumberedView (p : Case) (outcome : Outcome) (text : List ℕ) : Type 0 where
  pub view : List ℕ
  pub is_view : IsOutcomeView p Nothing outcome view
  pub printed : text ≡ numbers_text outcome ++ view

-- the views of several outcomes, in their order
abbrev pub AreOutcomeViews : Case → List Outcome → List ℕ → Type 0
AreOutcomeViews p [] text = text ≡ []
AreOutcomeViews p (outcome ∷ outcomes) text =
    (first : List ℕ) × (rest : List ℕ) × IsNumberedView p outcome first × AreOutcomeViews p outcomes rest × (text ≡ first ++ rest)

-- several outcomes: their table, and the view of each
pub record IsSessionView (p : Case) (outcomes : List Outcome) (text : List ℕ) : Type 0 where
  pub table : List ℕ
  pub views : List ℕ
  pub has_table : HasOutcomes p.places outcomes table
  pub are_views : AreOutcomeViews p outcomes views
  pub printed : text ≡ table ++ views

-- what is told of a report with no outcome
abbrev pub no_outcome_text : List ℕ
no_outcome_text = codes "  the report has no plan\n"

-- what is below the first line of a view
abbrev pub IsBody : Case → CostProof → List Outcome → List ℕ → Type 0
IsBody p proof [] text = text ≡ no_outcome_text
IsBody p proof (outcome ∷ []) text = IsOutcomeView p proof outcome text
IsBody p proof (outcome ∷ other ∷ outcomes) text = IsSessionView p (outcome ∷ other ∷ outcomes) text

-- the first block of one outcome: the costs of its plan, or the line of its separation
abbrev pub IsShortView : Case → CostProof → Outcome → List ℕ → Type 0
IsShortView p proof (Planned caller serial plan) text = IsCostView (case_of_plan p plan) plan proof text
IsShortView p proof (Unsurvivable caller serial version position state demand) text = text ≡ separation_text p.listed state.0 demand

-- what is below the first line in the first block of a view
abbrev pub IsBrief : Case → CostProof → List Outcome → List ℕ → Type 0
IsBrief p proof [] text = text ≡ no_outcome_text
IsBrief p proof (outcome ∷ []) text = IsShortView p proof outcome text
IsBrief p proof (outcome ∷ other ∷ outcomes) text = HasOutcomes p.places (outcome ∷ other ∷ outcomes) text

-- The view of outcomes, of a network's file of this name: the first line, and below it each outcome.
pub record IsReportView (network : List ℕ) (p : Case) (outcomes : List Outcome) (proof : CostProof) (text : List ℕ) : Type 0 where
  pub body : List ℕ
  pub is_body : IsBody p proof outcomes body
  pub printed : text ≡ heading_text network p outcomes ++ body

-- The first block of a view.
pub record IsFirstBlock (network : List ℕ) (p : Case) (outcomes : List Outcome) (proof : CostProof) (text : List ℕ) : Type 0 where
  pub brief : List ℕ
  pub is_brief : IsBrief p proof outcomes brief
  pub printed : text ≡ heading_text network p outcomes ++ brief
