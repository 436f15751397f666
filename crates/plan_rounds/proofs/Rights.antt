-- the right side of a cut whose lengths are below 2^32 is below 2^84
use Rattle.std.proofs.Common.{◌≡◌, ℕ, ◌*◌, ◌^◌, ◌<◌, ◌≤◌, List, [], ◌∷◌, All, Option, None, Some, get_or, length, sum_by, unwrap_or, zip, slice_get, slice_index_or, suc, refl, sym, subst, ⊎_elim, arith, mul-le-mul_left}
use Rattle.net_core.proofs.Library.{cases_lt, get_or_past, get_or_from_slice_get, slice_get_within, sum_by-cons}
use Rattle.plan_terms.{specs.Terms.{Demand, LinkId, AreDemands, Graph, Joins, IsNetwork, IsRight, IsDistance, length_of}, proofs.Lemmas.{path_few, joins_inside}}

-- lengths of 2^32 at most along some links
along_low : (lengths : List ℕ) → ((e : ℕ) → get_or lengths e 0 < 2 ^ 32) → (es : List LinkId) → length_of lengths es ≤ length es * 2 ^ 32
along_low lengths low [] = omega arith
along_low lengths low (e ∷ es) = omega (arith, low e.0, along_low lengths low es)

-- a distance is at most 127 times that
distance_low : (g : Graph) → ∥ IsNetwork g.nodes g.links ∥₁ → length g.nodes ≤ 128 → (lengths : List ℕ) → ((e : ℕ) → get_or lengths e 0 < 2 ^ 32) → (a b : ℕ) → a < length g.nodes → (d : Option ℕ) → IsDistance (Joins g) lengths a b d → unwrap_or d 0 ≤ 2 ^ 39
distance_low g checked few lengths low a b inside None h = omega arith
distance_low g checked few lengths low a b inside (Some d) h =
    let short : length h.0.0 < length g.nodes = path_few (Joins g) (length g.nodes) (λ e x y j. (joins_inside g e x y checked j).1) a b inside h.0.0 h.0.1 in
    omega (arith, short, few, along_low lengths low h.0.0, h.0.2)

parts_low : (demands : List Demand) (far : List (Option ℕ)) → ((k : ℕ) (d : Demand) → slice_get demands k ≡ Some d → unwrap_or (slice_index_or far k None) 0 ≤ 2 ^ 39)
    → sum_by (λ p. p.0.need * unwrap_or p.1 0) (zip demands far) ≤ sum_by (λ d. d.need) demands * 2 ^ 39
parts_low [] far low = omega arith
parts_low (d ∷ ds) [] low = omega arith
parts_low (d ∷ ds) (f ∷ fs) low =
    let part : d.need * unwrap_or f 0 ≤ d.need * 2 ^ 39 = mul-le-mul_left d.need (low 0 d refl) in
    omega (arith, part, parts_low ds fs (λ k x at. low (suc k) x at), sum_by-cons (λ (p : Demand × Option ℕ). p.0.need * unwrap_or p.1 0) (d, f) (zip ds fs), sum_by-cons (λ (x : Demand). x.need) d ds)

pub right_low : (g : Graph) → ∥ IsNetwork g.nodes g.links ∥₁ → length g.nodes ≤ 128 → (demands : List Demand) → AreDemands (length g.nodes) demands → (lengths : List ℕ) → All (λ x. x < 2 ^ 32) lengths → (right : ℕ) → IsRight (Joins g) lengths demands right → right < 2 ^ 84
right_low g checked few demands belong lengths short right is =
    let low : (e : ℕ) → get_or lengths e 0 < 2 ^ 32 = below lengths short in
    let parts = parts_low demands is.far (λ k d at.
    distance_low g checked few lengths low d.from.0 d.to.0
    (subst (λ (x : Demand). x.from.0 < length g.nodes) (get_or_from_slice_get demands k d d at) (belong.each k d (slice_get_within demands k d at)).from_known)
    (slice_index_or is.far k None) (is.each k d at)) in
    omega (arith, parts, is.sum, belong.total)
  where
    below : (xs : List ℕ) → All (λ x. x < 2 ^ 32) xs → (e : ℕ) → get_or xs e 0 < 2 ^ 32
    below xs all e = ⊎_elim (λ lt. all e 0 lt) (λ ge. subst (λ x. x < 2 ^ 32) (sym (get_or_past xs e 0 ge)) (omega arith)) (cases_lt e (length xs))
