-- what is known of the cuts of a report of one plan
use Rattle.std.proofs.Common.{◌≡◌, ◌∙◌, ℕ, ◌≤◌, ⊎_elim, List, [], ◌∷◌, All, Contains, Some, ap, arith, get_or, length, map, option_map, refl, slice_get, subst, sym}
use Rattle.net_core.proofs.Library.{∥∥₁_elim, ∥∥₁_map, props, All-cons, All-head, All-map, All-tail, slice_get-get_or, slice_get-map, take-length, All-contains, Contains-append_cases, Contains-get_or, all_at}
use Rattle.plan_terms.specs.Terms.{AreKept, Case, CertificateLine, CutLine, Demand, IsCut, IsRight, Joins, Notes, graph_in}
use Rattle.plan_types.specs.Terms.{IsCertifiedPlan, lines_of_certificate}
use Rattle.plan_report.specs.Terms.{IsOutcomeInForm, known_to, CertLine, Planned, Report}
use Rattle.cut_pool.specs.Terms.{IsLegalHistory, IsPoolAfter, cut_of_line, cuts_of, demands_left}
use Rattle.plan_reports.{specs.Terms.{IsTranscript, IsSoundOutcomeOf, IsSoundPlanOf, plan_commands, whole_report}, specs.declared.planned_report.PlannedReport.PlannedReport, proofs.Lemmas.{history_cuts, transcript_sound, unmoved}}
use Rattle.report_checker.specs.Outcomes.{case_at}
use Rattle.proof_report.specs.ProvedReports.{AreHandedIn, certificate_cuts}

-- the cuts of a certificate's lines
same_cuts : (ls : List CertLine) → map (λ (l : CertificateLine). l.cut) (map (λ (l : CertLine). record { cut = l.cut; num = l.num }) ls) ≡ map (λ (l : CertLine). l.cut) ls
same_cuts [] = refl
same_cuts (l ∷ ls) = ap (λ (cs : List CutLine). l.cut ∷ cs) (same_cuts ls)

-- a certificate whose cuts are shown
pub lines_shown : (p : Case) (cuts : List CutLine) (ls : List CertLine) → All (IsCut p) cuts → All (Contains cuts) (map (λ (l : CertLine). l.cut) ls)
    → All (λ (l : CertificateLine). IsCut p l.cut) (map (λ (l : CertLine). record { cut = l.cut; num = l.num }) ls)
lines_shown p cuts [] all own = λ i d lt. absurd (omega (arith, lt))
lines_shown p cuts (l ∷ ls) all own =
    All-cons (λ (x : CertificateLine). IsCut p x.cut) (record { cut = l.cut; num = l.num }) (map (λ (x : CertLine). record { cut = x.cut; num = x.num }) ls)
    (All-contains (IsCut p) cuts l.cut all (All-head (Contains cuts) l.cut (map (λ (x : CertLine). x.cut) ls) own))
    (lines_shown p cuts ls all (All-tail (Contains cuts) l.cut (map (λ (x : CertLine). x.cut) ls) own))

-- each line of a certificate has its cut in a list that has all of the certificate's cuts
pub own_stand : (cuts : List CutLine) (ls : List CertLine) → All (Contains cuts) (map (λ (l : CertLine). l.cut) ls) → All (λ (l : CertLine). Contains cuts l.cut) ls
own_stand cuts [] own = λ i d lt. absurd (omega (arith, lt))
own_stand cuts (l ∷ ls) own = All-cons (λ (x : CertLine). Contains cuts x.cut) l ls (All-head (Contains cuts) l.cut (map (λ (x : CertLine). x.cut) ls) own)
    (own_stand cuts ls (All-tail (Contains cuts) l.cut (map (λ (x : CertLine). x.cut) ls) own))

module _ (p : Case) (notes : Notes) (r : PlannedReport) (t : IsTranscript p notes plan_commands (whole_report r)) where
  abbrev report : Report
  report = whole_report r

  -- ---- the pool

  -- the entries leave the opening demands
  left_opening : demands_left p r.entries ≡ p.demands
  left_opening = ap (demands_left p) (sym (take-length r.entries)) ∙ unmoved p notes report t (length r.entries)

  module _ (legal : IsLegalHistory p r.entries) (pool : IsPoolAfter p r.entries r.pool) where
    cut_kept : (k : ℕ) (line : CutLine) → slice_get r.pool k ≡ Some line → AreKept (graph_in p line.state.0) line.lengths
    cut_kept k line at =
        let there : slice_get (cuts_of r.entries) k ≡ Some (cut_of_line line) =
        ap (λ (cs : List (ℕ × List ℕ)). slice_get cs k) (sym pool.cuts) ∙ (slice_get-map cut_of_line r.pool k ∙ ap (option_map cut_of_line) at) in
        all_at (λ (c : ℕ × List ℕ). AreKept (graph_in p c.0) c.1) (cuts_of r.entries) k (cut_of_line line) (history_cuts p r.entries legal).kept there

    legal_cuts : All (IsCut p) r.pool
    legal_cuts k d lt = record {
      listed_state = (t.form.pool k d lt).state;
      kept = cut_kept k (get_or r.pool k d) (slice_get-get_or r.pool k d lt);
      right = subst (λ (ds : List Demand). IsRight (Joins (graph_in p (get_or r.pool k d).state.0)) (get_or r.pool k d).lengths ds (get_or r.pool k d).right) left_opening (pool.rights k d lt);
    }

  pool_cuts : ∥ All (IsCut p) r.pool ∥₁
  pool_cuts = ∥∥₁_elim t.legal (hlevel props) (λ legal. ∥∥₁_map t.pool_is (λ pool. legal_cuts legal pool))

  -- ---- the certificate

  same_case : (n : ℕ) → case_at p r.entries n ≡ p
  same_case n = ap (λ (ds : List Demand). record { nodes = p.nodes; links = p.links; listed = p.listed; demands = ds; places = p.places }) (unmoved p notes report t n)

  plan_sound : ∥ IsSoundPlanOf p report r.plan ∥₁
  plan_sound = All-head (λ o. ∥ IsSoundOutcomeOf p report o ∥₁) (Planned 1 1 r.plan) [] (transcript_sound p notes plan_commands report (omega arith) t)

  pub certified_told : ∥ IsCertifiedPlan p r.plan ∥₁
  certified_told = ∥∥₁_map plan_sound (λ (s : IsSoundPlanOf p report r.plan). subst (λ (q : Case). IsCertifiedPlan q r.plan) (same_case r.plan.position) s.certified)

  own_cuts : ∥ All (IsCut p) (certificate_cuts r.plan.certificate) ∥₁
  own_cuts = ∥∥₁_map certified_told (λ (c : IsCertifiedPlan p r.plan). subst (All (IsCut p)) (same_cuts r.plan.certificate.lines)
      (All-map (IsCut p) (λ (l : CertificateLine). l.cut) (lines_of_certificate r.plan.certificate) c.certificate.each))

  -- ---- how many there are

  pub pool_few : length r.pool ≤ 4096
  pool_few = t.form.few_lines

  pub certificate_few : length r.plan.certificate.lines ≤ 256
  certificate_few = (All-head (IsOutcomeInForm (known_to p) r.pool) (Planned 1 1 r.plan) [] t.form.outcomes).plan.certificate.few

  -- ---- both

  pub handed_told : (cuts : List CutLine) → AreHandedIn r.pool (certificate_cuts r.plan.certificate) cuts → All (λ c. ∥ IsCut p c ∥₁) cuts
  handed_told cuts is k d lt = ⊎_elim
      (λ pooled. ∥∥₁_map pool_cuts (λ all. All-contains (IsCut p) r.pool (get_or cuts k d) all pooled))
      (λ other. ∥∥₁_map own_cuts (λ all. All-contains (IsCut p) (certificate_cuts r.plan.certificate) (get_or cuts k d) all
      (All-contains (λ c. Contains (certificate_cuts r.plan.certificate) c × (Contains r.pool c → ⊥)) is.others (get_or cuts k d) is.each other).0))
      (Contains-append_cases r.pool is.others (get_or cuts k d)
      (subst (λ (cs : List CutLine). Contains cs (get_or cuts k d)) is.whole (Contains-get_or cuts k d lt)))
