-- what a sound plan is made of: routings that carry, a cost, and a certified bound
use Rattle.std.specs.Prelude.{◌≡◌, ℕ, ◌+◌, List, Some, length, map, slice_get}
use Rattle.plan_terms.specs.Terms.{Routing, Case, graph_in, Joins, IsBound, IsLowest, capacities, total_cost, CertificateLine, IsCertificate, raw_value, Carries}
use Rattle.plan_types.{specs.declared.certificate.Certificate.Certificate, specs.declared.plan.Plan.Plan}

-- one routing for each state, which carries the demands there within the installed capacities
pub record IsCarryingPlan (p : Case) (plan : Plan) : Type 0 where
  pub states : length plan.routings ≡ length p.listed + 1
  pub each : (s : ℕ) (r : Routing) → slice_get plan.routings s ≡ Some r → Carries (Joins (graph_in p s)) p.demands 1 (capacities p.links plan.counts) r

-- the cost is what the counts cost
abbrev pub IsCostedPlan : Case → Plan → Type 0
IsCostedPlan p plan = plan.cost ≡ total_cost p.links plan.counts

-- the cuts of a certificate, with their numerators
abbrev pub lines_of_certificate : Certificate → List CertificateLine
lines_of_certificate c = map (λ l. record { cut = l.cut; num = l.num }) c.lines

-- the certificate is valid, the raw value is its own in lowest terms, and the bound is the raw value rounded up
pub record IsCertifiedPlan (p : Case) (plan : Plan) : Type 0 where
  pub certificate : IsCertificate p plan.certificate.den (lines_of_certificate plan.certificate)
  pub raw : IsLowest (raw_value p.links (lines_of_certificate plan.certificate)) plan.certificate.den plan.raw_num plan.raw_den
  pub rounded : IsBound p.links (raw_value p.links (lines_of_certificate plan.certificate)) plan.certificate.den plan.bound
