-- what the state keeps of a boundary is kept of priced lengths, and one violated right side is each
use Rattle.std.proofs.Common.{◌≡◌, ◌≢◌, ℕ, zero, suc, ◌*◌, ◌<◌, ◌≤◌, List, [], ◌∷◌, Bool, true, false, cond, length, get_or, slice_index, refl, sym, subst, ◌∙◌, arith}
use Rattle.net_core.proofs.Library.{get_or_default, length-map}
use Rattle.plan_terms.{specs.Terms.{Demand, Link, Caps, Graph, Joins, IsRight, Keeps, Violates}, proofs.Lemmas.right_once}
use Rattle.metric_cut.{specs.Bounded.HaveBound, specs.declared.cut.Cut.Cut}
use Rattle.route_law.{specs.Terms.ArePricedSomewhere, proofs.Lemmas.zeros_and_ones_are_priced}
use Rattle.node_sets.specs.Boundaries.{IsViolatedAt, crosses_boundary, boundary_lengths}

pub violated_at : (g : Graph) (demands : List Demand) (caps : Caps) (cut : Cut) (right : ℕ) → IsRight (Joins g) cut.lengths demands right
    → Violates caps (record { state = cut.state; lengths = cut.lengths; right = right }) → IsViolatedAt g demands caps cut
violated_at g demands caps cut right is violates other is_other =
    subst (λ r. Violates caps (record { state = cut.state; lengths = cut.lengths; right = r })) (right_once (Joins g) cut.lengths demands right other is is_other) violates

bit_low : (b : Bool) → cond b 1 0 ≤ 1
bit_low true = omega arith
bit_low false = omega arith

-- the lengths of a boundary are zeros and ones
boundary_low : (is_member : ℕ → Bool) (links : List Link) (e : ℕ) → slice_index (boundary_lengths is_member links) e ≤ 1
boundary_low is_member [] e = omega arith
boundary_low is_member (l ∷ ls) zero = bit_low (crosses_boundary is_member l)
boundary_low is_member (l ∷ ls) (suc e) = boundary_low is_member ls e

-- a boundary of which the state keeps something is priced
pub boundary_priced : (g : Graph) (is_member : ℕ → Bool) (kept : List ℕ) → length g.links ≤ 256 → Keeps g (boundary_lengths is_member g.links) kept → HaveBound g.links kept
    → ArePricedSomewhere (boundary_lengths is_member g.links)
boundary_priced g is_member kept few keeps bound =
    let some = bound.positive in
    let e = some.0 in
    let kept_there : get_or kept e 0 ≡ some.1 = get_or_default kept e 0 some.1 some.2 ∙ some.3 in
    let positive : get_or kept e 0 ≢ 0 = λ z. omega (arith, z, kept_there, some.4) in
    let survives = keeps.zero e positive in
    let given = keeps.divided e survives in
    let low = boundary_low is_member g.links e in
    zeros_and_ones_are_priced (boundary_lengths is_member g.links) e
    (subst (λ n. n ≤ 256) (sym (length-map g.links (λ (l : Link). cond (crosses_boundary is_member l) 1 0))) few)
    (boundary_low is_member g.links)
    (one_of (get_or kept e 0) keeps.common (slice_index (boundary_lengths is_member g.links) e) positive keeps.positive given low)
  where
    one_of : (k c l : ℕ) → k ≢ 0 → 0 < c → k * c ≡ l → l ≤ 1 → l ≡ 1
    one_of zero c l ne pc is low = absurd (ne refl)
    one_of (suc k) c l ne pc is low = omega (arith, pc, is, low)
