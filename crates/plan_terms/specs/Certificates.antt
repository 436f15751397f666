-- metric inequalities, and the lower bounds that they certify (Iri 1971; Onaga and Kakusho 1971; weak duality)
use Rattle.std.{specs.Prelude.{◌≡◌, ◌≢◌, ℕ, ◌-◌, ◌*◌, ◌^◌, ◌≤◌, ◌<◌, List, Option, None, Some, All, length, sum_by, zip, unwrap_or, slice_get, slice_index, slice_index_or}, specs.Int.◌∣◌}
use Rattle.net_core.{specs.declared.demand.Demand.Demand, specs.declared.network.Link.Link, specs.declared.plan.CutLine.CutLine, specs.Terms.{Case, graph_in, Graph, Joins, Survives}}
use Rattle.plan_terms.{specs.Bounds.IsBound, specs.Capacities.{IsAble, total_cost}, specs.Paths.IsDistance}

-- lengths that a state keeps: one per link, 0 on each link that doesn't survive, no common divisor above 1
-- (so that one is positive, since every number divides 0)
pub record AreKept (g : Graph) (lengths : List ℕ) : Type 0 where
  pub count : length lengths ≡ length g.links
  pub zero : (e : ℕ) → slice_index lengths e ≢ 0 → Survives g e
  pub lowest : (d : ℕ) → All (λ l. d ∣ l) lengths → d ≡ 1

-- lengths below 2^32
abbrev pub HasShortLengths : CutLine → Type 0
HasShortLengths line = All (λ x. x < 2 ^ 32) line.lengths

-- The right side of a metric inequality: the needs times the distances of the demands' ends. Ends that are apart count 0.
pub record IsRight (joins : ℕ → ℕ → ℕ → Type 0) (lengths : List ℕ) (demands : List Demand) (right : ℕ) : Type 0 where
  pub far : List (Option ℕ)
  pub count : length far ≡ length demands
  pub each : (k : ℕ) (d : Demand) → slice_get demands k ≡ Some d → IsDistance joins lengths d.from.0 d.to.0 (slice_index_or far k None)
  pub sum : right ≡ sum_by (λ p. p.0.need * unwrap_or p.1 0) (zip demands far)

-- a cut of the case: lengths that a listed state keeps, with their right side at the demands
pub record IsCut (p : Case) (cut : CutLine) : Type 0 where
  pub listed_state : cut.state.0 ≤ length p.listed
  pub kept : AreKept (graph_in p cut.state.0) cut.lengths
  pub right : IsRight (Joins (graph_in p cut.state.0)) cut.lengths p.demands cut.right

-- a line of a certificate: a cut and its numerator
pub record CertificateLine : Type 0 where
  pub cut : CutLine
  pub num : ℕ

-- the price of a unit of capacity on link e, over the denominator
abbrev pub price : List CertificateLine → ℕ → ℕ
price lines e = sum_by (λ l. l.num * slice_index l.cut.lengths e) lines

-- what the cuts ask for
abbrev pub asked : List CertificateLine → ℕ
asked lines = sum_by (λ l. l.num * l.cut.right) lines

-- what the pre-installed capacities give along lengths
abbrev pub fixed_along : List ℕ → List Link → ℕ
fixed_along lengths links = sum_by (λ p. p.0 * p.1.fixed) (zip lengths links)

-- what the pre-installed capacities give along the cuts
abbrev pub given : List Link → List CertificateLine → ℕ
given links lines = sum_by (λ l. l.num * fixed_along l.cut.lengths links) lines

-- A certificate over a denominator is valid: its cuts are those of the case, no module's price exceeds its cost, and its numbers keep their limits.
pub record IsCertificate (p : Case) (den : ℕ) (lines : List CertificateLine) : Type 0 where
  pub positive : 1 ≤ den
  pub den_limit : den < 2 ^ 72
  pub nums : All (λ l. l.num < 2 ^ 62) lines
  pub asked_limit : asked lines < 2 ^ 126
  pub given_limit : given p.links lines < 2 ^ 126
  pub each : All (λ l. IsCut p l.cut) lines
  pub priced : (e : ℕ) (l : Link) → slice_get p.links e ≡ Some l → All (λ m. price lines e * m.capacity ≤ den * m.cost) l.modules

-- the raw value of a certificate is this over its denominator
abbrev pub raw_value : List Link → List CertificateLine → ℕ
raw_value links lines = asked lines - given links lines

-- Weak duality: no able counts cost less than the bound of a certificate, whatever its lines, and whatever the counts.
abbrev pub WeakDuality : Type 0
WeakDuality = (p : Case) (den : ℕ) (lines : List CertificateLine) (bound : ℕ) (counts : List (List ℕ))
    → IsCertificate p den lines
    → IsBound p.links (raw_value p.links lines) den bound
    → IsAble p counts
    → bound ≤ total_cost p.links counts
