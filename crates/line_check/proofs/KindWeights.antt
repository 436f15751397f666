-- weights by kinds, and how much is used of each kind
use Rattle.std.proofs.Common.{◌≡◌, ℕ, zero, suc, ◌+◌, ◌*◌, ◌<◌, ◌≤◌, ⊎_elim, true, false, eq-eqb, ne_eqb, List, [], ◌∷◌, length, map, min, slice_index, zip, refl, ap, subst, sym, ◌∙◌, arith, if◌then◌else◌, nat_eq, eqb-true}
use Rattle.net_core.proofs.Library.{cases_Bool, cases_lt, get_or-map-range_with_len, range_with_len, sum_by-cons, below-le}
use Rattle.plan_terms.specs.Terms.{Link, sum_below}
use Rattle.line_check.{specs.CoverWeights.total_of_kinds, specs.Inequalities.{MeetsLine, entry, module_number, need_of, over_modules, table_of}, specs.Lines.{capped, weight_of}, specs.declared.inequality.Inequality.Inequality, proofs.OverModules.{over-plus, over-same, over-times}}

-- ---- tables of modules

pub table_entry : (links : List Link) (f : ℕ → ℕ → ℕ) (e m : ℕ) → e < length links → m < module_number links e → entry (table_of links f) e m ≡ f e m
table_entry links f e m here inside =
    ap (λ row. slice_index row m) (get_or-map-range_with_len (λ i. map (f i) (range_with_len 0 (module_number links i))) 0 (length links) e e [] here (omega arith))
    ∙ get_or-map-range_with_len (f e) 0 (module_number links e) m m 0 inside (omega arith)

-- ---- sums with a limit

below_min : (n need : ℕ) (f g : ℕ → ℕ) → ((k : ℕ) → k < n → min need (f k) ≤ g k) → min need (sum_below n f) ≤ sum_below n g
below_min zero need f g h = omega arith
below_min (suc n) need f g h = omega (arith, h n (omega arith), below_min n need f g (λ k lt. h k (omega (arith, lt))))

pub over_min : (links : List Link) (need : ℕ) (f g : ℕ → ℕ → ℕ) → ((e m : ℕ) → e < length links → m < module_number links e → min need (f e m) ≤ g e m)
    → min need (over_modules links f) ≤ over_modules links g
over_min links need f g h = below_min (length links) need _ _ (λ e le. below_min (module_number links e) need (f e) (g e) (λ m lm. h e m le lm))

pub capped_term : (c x need : ℕ) → min need (c * x) ≤ min c need * x
capped_term c zero need = omega arith
capped_term c (suc x) need = ⊎_elim
    (λ (low : c < need). let e : min c need ≡ c = omega (arith, low) in subst (λ k. min need (c * suc x) ≤ k * suc x) (sym e) (omega arith))
    (λ (high : need ≤ c). let e : min c need ≡ need = omega (arith, high) in subst (λ k. min need (c * suc x) ≤ k * suc x) (sym e) (omega arith))
    (cases_lt c need)

-- counts that meet a line meet it capped as well
pub capped_meets : (links : List Link) (over : Inequality) (counts : List (List ℕ)) → MeetsLine links over counts → need_of over ≤ over_modules links (λ e m. capped over e m * entry counts e m)
capped_meets links over counts meets =
    let least = over_min links (need_of over) (λ e m. entry over.coefs e m * entry counts e m) (λ e m. capped over e m * entry counts e m)
    (λ e m here inside. capped_term (entry over.coefs e m) (entry counts e m) (need_of over)) in
    omega (arith, meets, least)

-- ---- one term of a sum

below_some : (n : ℕ) (f : ℕ → ℕ) → 0 < sum_below n f → (k : ℕ) × (k < n) × (0 < f k)
below_some zero f some = absurd (omega (arith, some))
below_some (suc n) f some = ⊎_elim
    (λ (here : 0 < f n). (n, omega arith, here))
    (λ (none : f n ≤ 0). let r = below_some n f (omega (arith, some, none)) in (r.0, omega (arith, r.1), r.2))
    (cases_lt 0 (f n))

pub over_some : (links : List Link) (f : ℕ → ℕ → ℕ) → 0 < over_modules links f → (e : ℕ) × (m : ℕ) × (e < length links) × (m < module_number links e) × (0 < f e m)
over_some links f some =
    let link = below_some (length links) (λ e. sum_below (module_number links e) (f e)) some in
    let module_of = below_some (module_number links link.0) (f link.0) link.2 in
    (link.0, module_of.0, link.1, module_of.1, module_of.2)

below_gap : (n i gap : ℕ) (f g : ℕ → ℕ) → ((k : ℕ) → k < n → f k ≤ g k) → i < n → f i + gap ≤ g i → sum_below n f + gap ≤ sum_below n g
below_gap zero i gap f g h lt more = absurd (omega (arith, lt))
below_gap (suc n) i gap f g h lt more = ⊎_elim
    (λ (before : i < n). omega (arith, h n (omega arith), below_gap n i gap f g (λ k l. h k (omega (arith, l))) before more))
    (λ (last : n ≤ i). let e : i ≡ n = omega (arith, lt, last) in
    omega (arith, more, ap f e, ap g e, below-le n f g (λ k l. h k (omega (arith, l)))))
    (cases_lt i n)

-- a sum with more at one place
pub over_gap : (links : List Link) (f g : ℕ → ℕ → ℕ) (e m gap : ℕ) → ((i j : ℕ) → i < length links → j < module_number links i → f i j ≤ g i j)
    → e < length links → m < module_number links e → f e m + gap ≤ g e m → over_modules links f + gap ≤ over_modules links g
over_gap links f g e m gap h here inside more =
    below_gap (length links) e gap _ _ (λ i li. below-le (module_number links i) (f i) (g i) (λ j lj. h i j li lj)) here
    (below_gap (module_number links e) m gap (f e) (g e) (λ j lj. h e j here lj) inside more)

-- ---- weights by kinds

-- how many modules of a kind there are
abbrev pub used : List Link → Inequality → List (List ℕ) → ℕ → ℕ
used links over counts kind = over_modules links (λ e m. if nat_eq kind (capped over e m) then entry counts e m else 0)

-- each number is above all before it
abbrev pub AreRising : List ℕ → Type 0
AreRising xs = (i j : ℕ) → i < j → j < length xs → slice_index xs i < slice_index xs j

pub rising_tail : (x : ℕ) (xs : List ℕ) → AreRising (x ∷ xs) → AreRising xs
rising_tail x xs rising i j lt inside = rising (suc i) (suc j) (omega (arith, lt)) (omega (arith, inside))

pub rising_head : (x : ℕ) (xs : List ℕ) (k : ℕ) → AreRising (x ∷ xs) → k < length xs → x < slice_index xs k
rising_head x xs k rising inside = rising 0 (suc k) (omega arith) (omega (arith, inside))

-- no weight past the greatest kind, and none before the least
pub weight_none : (kinds weights : List ℕ) (n : ℕ) → ((k : ℕ) → k < length kinds → slice_index kinds k ≡ n → ⊥) → weight_of (zip kinds weights) n ≡ 0
weight_none [] weights n none = refl
weight_none (x ∷ xs) [] n none = refl
weight_none (x ∷ xs) (w ∷ ws) n none =
    rw (ne_eqb x n (none 0 (omega arith))) (weight_none xs ws n (λ k lt. none (suc k) (omega (arith, lt))))

-- the weight of the kind at a place
pub weight_at : (kinds weights : List ℕ) (k : ℕ) → AreRising kinds → length weights ≡ length kinds → k < length kinds → weight_of (zip kinds weights) (slice_index kinds k) ≡ slice_index weights k
weight_at [] weights k rising paired inside = absurd (omega (arith, inside))
weight_at (x ∷ xs) [] k rising paired inside = absurd (omega (arith, paired))
weight_at (x ∷ xs) (w ∷ ws) zero rising paired inside = rw (eq-eqb x x refl) refl
weight_at (x ∷ xs) (w ∷ ws) (suc k) rising paired inside =
    let above = rising_head x xs k rising (omega (arith, inside)) in
    rw (ne_eqb x (slice_index xs k) (λ e. omega (arith, e, above))) (weight_at xs ws k (rising_tail x xs rising) (omega (arith, paired)) (omega (arith, inside)))

-- what a count weighs, by the first kind and the others
weighs_apart : (kind n w count : ℕ) (kinds weights : List ℕ) → AreRising (kind ∷ kinds)
    → weight_of (zip (kind ∷ kinds) (w ∷ weights)) n * count ≡ w * (if nat_eq kind n then count else 0) + weight_of (zip kinds weights) n * count
weighs_apart kind n w count kinds weights rising = ⊎_elim
    (λ (is : nat_eq kind n ≡ true).
    let e = eqb-true kind n is in
    let none = weight_none kinds weights n (λ k lt same. omega (arith, e, same, rising_head kind kinds k rising lt)) in
    rw (is, none) (omega arith))
    (λ (isn't : nat_eq kind n ≡ false). rw isn't (omega arith))
    (cases_Bool (nat_eq kind n))

-- what the numbers used of each kind weigh is what the modules weigh
pub used_weighs : (links : List Link) (over : Inequality) (counts : List (List ℕ)) (kinds weights : List ℕ) → AreRising kinds → length weights ≡ length kinds
    → total_of_kinds weights (map (used links over counts) kinds) ≡ over_modules links (λ e m. weight_of (zip kinds weights) (capped over e m) * entry counts e m)
used_weighs links over counts [] [] rising paired = omega (arith, over-times links 0 (λ e m. entry counts e m))
used_weighs links over counts [] (w ∷ ws) rising paired = absurd (omega (arith, paired))
used_weighs links over counts (k ∷ ks) [] rising paired = absurd (omega (arith, paired))
used_weighs links over counts (k ∷ ks) (w ∷ ws) rising paired =
    let first = λ (e m : ℕ). if nat_eq k (capped over e m) then entry counts e m else 0 in
    let rest = λ (e m : ℕ). weight_of (zip ks ws) (capped over e m) * entry counts e m in
    let apart = over-same links (λ e m. weight_of (zip (k ∷ ks) (w ∷ ws)) (capped over e m) * entry counts e m) (λ e m. w * first e m + rest e m)
    (λ e m here inside. weighs_apart k (capped over e m) w (entry counts e m) ks ws rising) in
    omega (
      arith,
      sum_by-cons (λ (p : ℕ × ℕ). p.0 * p.1) (w, used links over counts k) (zip ws (map (used links over counts) ks)),
      used_weighs links over counts ks ws (rising_tail k ks rising) (omega (arith, paired)),
      apart,
      over-plus links (λ e m. w * first e m) rest,
      over-times links w first,
    )
