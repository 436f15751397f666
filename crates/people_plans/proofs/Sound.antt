-- the plan of a proved report is sound, and what its proof tells of the cost holds
use Rattle.std.proofs.Common.{◌≡◌, ℕ, List, [], All, Contains, ap, arith, drop, length, refl, subst, sym, take, take-append-drop}
use Rattle.net_core.proofs.Library.{All-cons, All-weaker, Contains-append_left}
use Rattle.plan_terms.specs.Terms.{AreDemands, Case, CutLine, Demand, Notes}
use Rattle.plan_types.specs.Terms.{IsCertifiedPlan}
use Rattle.plan_report.specs.Terms.{Plan, Outcome, Planned}
use Rattle.plan_view.specs.Terms.{IsSoundPlan, HasSoundPlan, case_of_plan}
use Rattle.proof_report.{proofs.Lemmas.lone_plans_carry, proofs.Certain.certified_certain, proofs.Known.{certified_told, lines_shown}, specs.ProvedReports.{IsLinedReport, certificate_cuts, proved_report}, specs.declared.ending.ProvedReport.ProvedReport}
use Rattle.tree_check.{specs.declared.proof.Verdict.Verdict, specs.declared.proof.Verdict.TheVariants.{Cheapest, Above}}
use Rattle.view_text.{specs.Terms.{HoldsOfSingle, HoldsProof}, specs.declared.proof.CostProof.CostProof}
use Rattle.people_plans.specs.PlansForPeople.{cost_told, told_outcomes, told_of_proof}

front_contains : (xs ys : List CutLine) (n : ℕ) → take n ys ≡ xs → (x : CutLine) → Contains xs x → Contains ys x
front_contains xs ys n is x has =
    subst (λ (zs : List CutLine). Contains zs x) (take-append-drop n ys)
    (Contains-append_left (take n ys) (drop n ys) x (subst (λ (zs : List CutLine). Contains zs x) (sym is) has))

module _ (p : Case) (notes : Notes) (limit : ℕ) (r : ProvedReport) (is : IsLinedReport p notes limit r) where
  own_cuts : All (Contains r.proof.cuts) (certificate_cuts r.proof.plan.certificate)
  own_cuts =
      subst (All (Contains r.proof.cuts)) (sym (ap (λ (x : Plan). certificate_cuts x.certificate) is.proved.plan.same))
      (All-weaker (Contains is.handed) (Contains r.proof.cuts) (front_contains is.handed r.proof.cuts (length is.handed) is.proved.cuts)
      (certificate_cuts is.given.certificate) is.begun.all)

  certified : IsCertifiedPlan p r.proof.plan
  certified =
      certified_certain p r.proof.plan (certified_told p notes (proved_report r) is.transcript)
      (lines_shown p r.proof.cuts r.proof.plan.certificate.lines is.proved.sound own_cuts)

  sound : IsSoundPlan p r.proof.plan
  sound = record { form = is.proved.plan.routed.form; carrying = is.proved.plan.routed.carrying; costed = is.proved.plan.routed.costed; certified = certified }

  same_demands : r.proof.plan.demands ≡ p.demands
  same_demands = (lone_plans_carry p notes (proved_report r) is.transcript).0.demands

  same_case : case_of_plan p r.proof.plan ≡ p
  same_case = ap (λ (ds : List Demand). record { nodes = p.nodes; links = p.links; listed = p.listed; demands = ds; places = p.places }) same_demands

  sound_outcomes : AreDemands (length p.nodes) p.demands → All (HasSoundPlan p) (told_outcomes r)
  sound_outcomes belong =
      All-cons (HasSoundPlan p) (Planned 1 1 r.proof.plan) []
      (subst (AreDemands (length p.nodes)) (sym same_demands) belong, subst (λ (q : Case). IsSoundPlan q r.proof.plan) (sym same_case) sound)
      (λ i d lt. absurd (omega (arith, lt)))

  holds_of : (v : Verdict) → r.proof.verdict ≡ v → HoldsProof p r.proof.plan (cost_told (length r.proof.tree) v)
  holds_of Cheapest told = is.cheapest told
  holds_of (Above least) told = is.above least told

  told_holds : HoldsOfSingle p (told_of_proof r.proof) (told_outcomes r)
  told_holds = subst (λ (q : Case). HoldsProof q r.proof.plan (told_of_proof r.proof)) (sym same_case) (holds_of r.proof.verdict refl)

  pub sound_shown : (os : List Outcome) → os ≡ told_outcomes r → AreDemands (length p.nodes) p.demands → All (HasSoundPlan p) os
  sound_shown os same belong = subst (All (HasSoundPlan p)) (sym same) (sound_outcomes belong)

  pub holds_shown : (os : List Outcome) (cost : CostProof) → os ≡ told_outcomes r → cost ≡ told_of_proof r.proof → HoldsOfSingle p cost os
  holds_shown os cost same told =
      subst (λ (x : CostProof). HoldsOfSingle p x os) (sym told) (subst (HoldsOfSingle p (told_of_proof r.proof)) (sym same) told_holds)
