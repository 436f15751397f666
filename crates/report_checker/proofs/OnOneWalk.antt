-- outcomes that are checked along a walk
use Rattle.std.{proofs.Common.{◌≡◌, ◌∙◌, ℕ, suc, ◌+◌, ◌<◌, ◌≤◌, All, None, Some, length, get_or, arith, ap, slice_get, subst, ⊎_elim, IfErr, OnOk, Result, Ok, Err}, proofs.Math.Nat.min-le_right}
use Rattle.net_core.proofs.Library.{⊤, cases_eq, get_or_from_slice_get, slice_get-get_or}
use Rattle.plan_terms.specs.Terms.{Case}
use Rattle.plan_report.specs.Terms.{Outcome, Report}
use Rattle.plan_checker.{specs.Terms.{HoldNone, StopsFirst, TellFirst}, specs.declared.finding.CheckAnswer.TheVariants.Rejected, specs.declared.finding.Finding.Finding, specs.declared.stop.Stop.Stop, proofs.Places.holds_read}
use Rattle.plan_types.specs.Terms.{outcome_position}
use Rattle.report_checker.{specs.Outcomes.{IsAcceptedOutcome, case_at, outcome_findings}, specs.inner.Along.{AreChecked, AreSoundBefore, IsFirstAfterClean, IsSoundOutcome, outcome_place}, specs.inner.Outcomes.{IsFirstOfOutcomes, TellOutcomes}, specs.inner.Said.{IsSaid, findings_there}, specs.declared.outcomes_along.Checked.Checked, proofs.PoolLines.some_item, proofs.There.{accepted, all_there}}

-- what the check of an outcome there shows
pub sound_met : (p : Case) (r : Report) (o : Outcome) (place : ℕ) (t : Result ⊤ Stop) → TellFirst (findings_there p r o) t → OnOk t (IsSaid (case_at p r.entries (outcome_position o)) o)
    → OnOk t (outcome_place r o ≡ place → IsSoundOutcome p r o)
sound_met p r o place (Ok u) told said = λ _. (subst HoldNone (all_there p r o) told, accepted p r o said)
sound_met p r o place (Err e) told said = tt

pub stopped_met : (p : Case) (r : Report) (o : Outcome) (t : Result ⊤ Stop) → TellFirst (findings_there p r o) t → IfErr t (StopsFirst (outcome_findings p r o))
stopped_met p r o (Ok u) told = tt
stopped_met p r o (Err stop) told = subst (λ ks. StopsFirst ks stop) (all_there p r o) told

module _ (p : Case) (r : Report) (place : ℕ) where
  -- one outcome more
  pub sound_more : (k : ℕ) (x : Outcome) → x ≡ get_or r.outcomes k x → AreSoundBefore p r place (k + 1) → AreSoundBefore p r (place + 1) k
      → (outcome_place r x ≡ place → IsSoundOutcome p r x) → AreSoundBefore p r (place + 1) (k + 1)
  sound_more k x is before here there i o lt at within = ⊎_elim
      (λ last.
      let same : x ≡ o = is ∙ get_or_from_slice_get r.outcomes k o x (subst (λ j. slice_get r.outcomes j ≡ Some o) last at) in
      ⊎_elim
      (λ now. subst (IsSoundOutcome p r) same (there (ap (outcome_place r) same ∙ now)))
      (λ other. before i o lt at (omega (arith, within, other)))
      (cases_eq (outcome_place r o) place))
      (λ other. here i o (omega (arith, lt, other)) at within)
      (cases_eq i k)

-- all outcomes are of places before the one after the journal
module _ (p : Case) (r : Report) (k : ℕ) (sound : AreSoundBefore p r (length r.entries + 1) k) where
  each_sound : (i : ℕ) (d : Outcome) → i < k → i < length r.outcomes → IsSoundOutcome p r (get_or r.outcomes i d)
  each_sound i d lt inside =
      let o = get_or r.outcomes i d in
      sound i o lt (slice_get-get_or r.outcomes i d inside) (omega (arith, min-le_right (outcome_position o) (length r.entries)))

  all_sound : length r.outcomes ≤ k → All (IsSoundOutcome p r) r.outcomes
  all_sound le i d lt = each_sound i d (omega (arith, lt, le)) lt

pub all_accepted : (p : Case) (r : Report) (c : Checked) → AreChecked p r (length r.entries + 1) c → c.finding ≡ None → All (IsAcceptedOutcome p r) r.outcomes
all_accepted p r c checked none i d lt = (all_sound p r c.clean checked.clean (subst (IsFirstAfterClean p r c.clean) none checked.first) i d lt).1

-- the first outcome with a finding
pub first_told : (p : Case) (r : Report) (c : Checked) (f : Finding) (n : ℕ) → AreChecked p r (length r.entries + 1) c → c.finding ≡ Some f → n ≡ c.clean + 1 → TellOutcomes p r (Rejected n f)
first_told p r c f n checked is counted =
    let first = subst (IsFirstAfterClean p r c.clean) is checked.first in
    let next : suc c.clean ≡ n = omega (arith, counted) in
    subst (λ m. IsFirstOfOutcomes p r m f) next (
      λ i lt.
          let inside : i < length r.outcomes = omega (arith, lt, checked.inside) in
          holds_read r.outcomes (λ _ (o : Outcome). HoldNone (outcome_findings p r o)) i (some_item r.outcomes i inside) inside
          (each_sound p r c.clean checked.clean i (some_item r.outcomes i inside) lt inside).0,
      first,
    )
