-- cuts and routings over a multiple of the scale
use Rattle.std.proofs.Common.{◌≡◌, ℕ, ◌+◌, ◌*◌, ◌<◌, ◌≤◌, List, [], ◌∷◌, All, map, sum_by, zip, slice_index, ap, ◌∙◌, arith, ⊎_elim, mul-le-mul_left}
use Rattle.net_core.proofs.Library.{cases_lt, sum_by-cons, recursion_from_All, All-from_recursion, AllByRecursion}
use Rattle.plan_terms.specs.Terms.{Demand, Flow, Joins, load, IsFlow}
use Rattle.route_law.{specs.Divisions.{DividedAreCarried, DividedAreViolated}, specs.Routings.flow_times, proofs.Divided.index_times, proofs.Lowest.{sent_times, load_times}}

-- what capacities give along lengths
abbrev along : List ℕ → List ℕ → ℕ
along lengths nums = sum_by (λ p. p.0 * p.1) (zip lengths nums)

along_times : (d : ℕ) (lengths nums : List ℕ) → along lengths (map (λ n. d * n) nums) ≡ d * along lengths nums
along_times d [] nums = omega arith
along_times d (l ∷ ls) [] = omega arith
along_times d (l ∷ ls) (n ∷ ns) =
    omega (arith, sum_by-cons (λ (p : ℕ × ℕ). p.0 * p.1) (l, d * n) (zip ls (map (λ n. d * n) ns)), ap (λ s. d * s) (sum_by-cons (λ (p : ℕ × ℕ). p.0 * p.1) (l, n) (zip ls ns)), along_times d ls ns)

pub divided_are_violated : DividedAreViolated
divided_are_violated d caps cut pd = (
  (λ v. let m : d * (along cut.lengths caps.nums + 1) ≤ d * (cut.right * caps.scale) = mul-le-mul_left d (omega (arith, v)) in
      omega (arith, m, along_times d cut.lengths caps.nums, pd)),
  (λ v. ⊎_elim (λ l. l)
      (λ ge. let m : d * (cut.right * caps.scale) ≤ d * along cut.lengths caps.nums = mul-le-mul_left d ge in
      absurd (omega (arith, m, along_times d cut.lengths caps.nums, v)))
      (cases_lt (along cut.lengths caps.nums) (cut.right * caps.scale))),
)

module _ (joins : ℕ → ℕ → ℕ → Type 0) (demands : List Demand) (d : ℕ) (pd : 0 < d) where
  flow_more : (f : Flow) → IsFlow joins demands f → IsFlow joins demands (flow_times d f)
  flow_more f is = record { positive = let m : d * 1 ≤ d * f.num = mul-le-mul_left d (omega (arith, is.positive)) in omega (arith, m, pd); of = is.of; at = is.at; path = is.path }

  flows_more : (flows : List Flow) → All (IsFlow joins demands) flows → All (IsFlow joins demands) (map (flow_times d) flows)
  flows_more flows all = All-from_recursion (IsFlow joins demands) (map (flow_times d) flows) (go flows (recursion_from_All (IsFlow joins demands) flows all))
    where
      go : (fs : List Flow) → AllByRecursion (IsFlow joins demands) fs → AllByRecursion (IsFlow joins demands) (map (flow_times d) fs)
      go [] h = tt
      go (f ∷ fs) h = (flow_more f h.0, go fs h.1)

pub divided_are_carried : DividedAreCarried
divided_are_carried g demands d caps r pd c = record {
  den = c.den;
  flows = flows_more (Joins g) demands d pd r.flows c.flows;
  met = λ k w at. sent_times d r.flows k ∙ (ap (λ s. d * s) (c.met k w at) ∙ omega arith);
  within = λ e. let m : d * load r.flows e ≤ d * (slice_index caps.nums e * r.den) = mul-le-mul_left d (c.within e) in
      omega (arith, m, load_times d r.flows e, ap (λ s. s * r.den) (index_times d caps.nums e));
}
