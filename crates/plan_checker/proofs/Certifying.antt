-- from what the tests find to a valid certificate
use Rattle.std.{proofs.Common.{◌≡◌, ℕ, ◌*◌, ◌^◌, ◌<◌, ◌≤◌, List, Some, All, Result, Ok, Err, OnOk, slice_get, ⊎_elim}, specs.Bool.⊤}
use Rattle.net_core.proofs.Library.{cases_lt, All-map}
use Rattle.plan_terms.specs.Terms.{Case, graph_in, Joins, Link, Module, IsBound, IsLowest, AreKept, CertificateLine, IsCertificate, IsCut, IsRight, asked, given, price, raw_value}
use Rattle.plan_types.specs.Terms.{IsCertifiedPlan, lines_of_certificate}
use Rattle.plan_report.specs.Terms.{IsCertificateInForm, CertLine, Plan}
use Rattle.plan_checker.{specs.Certified.IsOverpriced, proofs.Places.holds_read, specs.declared.stop.Stop.Stop}

-- no price above a cost
pub priced_by : (links : List Link) (den : ℕ) (lines : List CertificateLine) → ((e m : ℕ) → IsOverpriced links den lines e m → ⊥)
    → (e : ℕ) (l : Link) → slice_get links e ≡ Some l → All (λ m. price lines e * m.capacity ≤ den * m.cost) l.modules
priced_by links den lines none e l at k d lt = ⊎_elim
    (λ over. absurd (none e k (record { item = l; at = at; holds = holds_read l.modules (λ j (m : Module). den * m.cost < price lines e * m.capacity) k d lt over })))
    (λ le. le)
    (cases_lt _ _)

module _ (p : Case) (plan : Plan) (form : IsCertificateInForm p.links p.listed plan.certificate)
    (kept : All (λ l. AreKept (graph_in p l.cut.state.0) l.cut.lengths) plan.certificate.lines)
    (rights : All (λ l. IsRight (Joins (graph_in p l.cut.state.0)) l.cut.lengths p.demands l.cut.right) plan.certificate.lines)
    (none : (e m : ℕ) → IsOverpriced p.links plan.certificate.den (lines_of_certificate plan.certificate) e m → ⊥) where
  pub certificate_by : asked (lines_of_certificate plan.certificate) < 2 ^ 126 → given p.links (lines_of_certificate plan.certificate) < 2 ^ 126 → IsCertificate p plan.certificate.den (lines_of_certificate plan.certificate)
  certificate_by first second = record {
    positive = form.positive;
    den_limit = form.den;
    nums = All-map (λ (l : CertificateLine). l.num < 2 ^ 62) (λ (l : CertLine). record { cut = l.cut; num = l.num }) plan.certificate.lines (λ k d lt. (form.lines k d lt).num);
    asked_limit = first;
    given_limit = second;
    each = All-map (λ (l : CertificateLine). IsCut p l.cut) (λ (l : CertLine). record { cut = l.cut; num = l.num }) plan.certificate.lines
        (λ k d lt. record { listed_state = (form.lines k d lt).cut.state; kept = kept k d lt; right = rights k d lt });
    priced = priced_by p.links plan.certificate.den (lines_of_certificate plan.certificate) none;
  }

  -- the plan is certified, where the last test finds nothing
  pub certified_by : (r : Result ⊤ Stop) → OnOk r (asked (lines_of_certificate plan.certificate) < 2 ^ 126) → OnOk r (given p.links (lines_of_certificate plan.certificate) < 2 ^ 126)
      → OnOk r (IsLowest (raw_value p.links (lines_of_certificate plan.certificate)) plan.certificate.den plan.raw_num plan.raw_den)
      → OnOk r (IsBound p.links (raw_value p.links (lines_of_certificate plan.certificate)) plan.certificate.den plan.bound)
      → OnOk r (IsCertifiedPlan p plan)
  certified_by (Ok u) first second raw bound = record { certificate = certificate_by first second; raw = raw; rounded = bound }
  certified_by (Err e) first second raw bound = tt
