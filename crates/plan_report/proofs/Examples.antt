-- The report of a plan without demands on the triangle is in form.
use Rattle.std.proofs.Common.{◌≡◌, ℕ, ◌<◌, ◌^◌, List, [], ◌∷◌, All, length, refl, sym, arith}
use Rattle.net_core.proofs.Library.{All-cons, All-nil, all_one}
use Rattle.plan_terms.specs.Terms.{Link, Three, Pooled}
use Rattle.worked_networks.{specs.Tables.letters, specs.Triangle.triangle_links}
use Rattle.plan_types.{specs.declared.certificate.CertLine.CertLine, specs.declared.report.Outcome.TheVariants.Planned}
use Rattle.plan_report.{specs.Forms.{AreLinkNumbers, AreRoutingsInForm, IsCertificateInForm, IsCertificateLineInForm, IsCutInForm, IsEntryInForm, IsFlowInForm, IsOfPool, IsOutcomeInForm, IsPlanInForm, IsReportInForm, IsRoutingInForm, IsShareInForm}, specs.KnownNames.{KnownNames, known_as}, specs.inner.Examples.{idle_certificate, idle_cut, idle_plan, idle_report, idle_routing}}

-- no state is listed, and amounts have three places
abbrev triangle_names : KnownNames
triangle_names = known_as Three (letters 65 3) (triangle_links 0) []

three : {X : Type 0} (P : X → Type 0) (x : X) → P x → All P (x ∷ x ∷ x ∷ [])
three P x p = All-cons P x (x ∷ x ∷ []) p (All-cons P x (x ∷ []) p (all_one P x p))

entry_in_form : IsEntryInForm (idle_cut ∷ []) (Pooled 0 idle_cut.state idle_cut.lengths)
entry_in_form = record { most = omega arith; same_state = refl; same_lengths = refl }

cut_in_form : IsCutInForm (triangle_links 0) [] idle_cut
cut_in_form = record { state = omega arith; lengths = record { long = refl; each = three (λ n. n < 2 ^ 32) 1 (omega arith) }; right = omega arith }

routing_in_form : IsRoutingInForm (triangle_links 0) [] idle_routing
routing_in_form = record { positive = omega arith; den = omega arith; few = omega arith; flows = All-nil (IsFlowInForm (triangle_links 0) []) }

idle_routings_in_form : AreRoutingsInForm triangle_names [] (idle_routing ∷ [])
idle_routings_in_form = record { long = refl; each = all_one (IsRoutingInForm (triangle_links 0) []) idle_routing routing_in_form }

share_in_form : IsShareInForm (triangle_links 0) (record { scale = 1; units = 0 ∷ 0 ∷ 0 ∷ [] })
share_in_form = record { positive = omega arith; scale = omega arith; units = record { long = refl; each = three (λ n. n < 2 ^ 62) 0 (omega arith) } }

certificate_in_form : IsCertificateInForm (triangle_links 0) [] idle_certificate
certificate_in_form = record { positive = omega arith; den = omega arith; few = omega arith; lines = All-nil (IsCertificateLineInForm (triangle_links 0) []) }

plan_in_form : IsPlanInForm triangle_names idle_plan
plan_in_form = record {
  version = omega arith;
  position = omega arith;
  demands = tt;
  counts = (refl, (refl, (refl, tt)));
  limits = record {
    few = three (λ (c : List ℕ). All (λ n. n < 2 ^ 44) c) (0 ∷ []) (all_one (λ n. n < 2 ^ 44) 0 (omega arith));
    small = three (λ n. n < 2 ^ 46) 0 (omega arith);
  };
  cost = omega arith;
  routings = idle_routings_in_form;
  certificate = certificate_in_form;
  raw_num = omega arith;
  raw_positive = omega arith;
  raw_den = omega arith;
  bound = omega arith;
  quality = (share_in_form, idle_routings_in_form);
}

outcome_in_form : IsOutcomeInForm triangle_names (idle_cut ∷ []) (Planned 1 1 idle_plan)
outcome_in_form = record {
  command = record { some_caller = omega arith; most_caller = omega arith; some_serial = omega arith; most_serial = omega arith; most_version = omega arith; most_position = omega arith };
  plan = plan_in_form;
  pooled = All-nil (λ (l : CertLine). IsOfPool (idle_cut ∷ []) l.spot l.cut);
}

pub idle_in_form : IsReportInForm triangle_names idle_report
idle_in_form = record {
  few_entries = omega arith;
  entries = all_one (IsEntryInForm (idle_cut ∷ [])) (Pooled 0 idle_cut.state idle_cut.lengths) entry_in_form;
  few_lines = omega arith;
  pool = all_one (IsCutInForm (triangle_links 0) []) idle_cut cut_in_form;
  few_outcomes = omega arith;
  outcomes = all_one (IsOutcomeInForm triangle_names (idle_cut ∷ [])) (Planned 1 1 idle_plan) outcome_in_form;
}

pub three_lengths : (links : List Link) → length links ≡ 3 → AreLinkNumbers links (2 ^ 32) (1 ∷ 0 ∷ 2 ∷ [])
three_lengths links e = record {
  long = sym e;
  each = All-cons (λ n. n < 2 ^ 32) 1 (0 ∷ 2 ∷ []) (omega arith) (All-cons (λ n. n < 2 ^ 32) 0 (2 ∷ []) (omega arith) (all_one (λ n. n < 2 ^ 32) 2 (omega arith)));
}
