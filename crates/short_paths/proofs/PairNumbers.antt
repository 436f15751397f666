-- the numbers of each two nodes, gathered row by row
use Rattle.std.proofs.Common.{◌≡◌, ◌≢◌, ℕ, map, zero, suc, ◌+◌, ◌-◌, ◌*◌, ◌^◌, ◌<◌, ◌≤◌, List, ◌++◌, length, get_or, take, Some, cond, eqb, min, max, ⊎_elim, refl, sym, subst, ap, ◌∙◌, arith, add-one, le_refl, length-append, eq-eqb, ne_eqb, get_or-append-add, get_or-take, length-take-le}
use Rattle.net_core.proofs.Library.{cases_lt, cases_eq, get_or_append_left, get_or-map, length-map, All-append, All-map, All-take, All-same, All-from_get_or}
use Rattle.plan_terms.{specs.Terms.IsDistance, proofs.Lemmas.{distance_none, distance_back}}
use Rattle.short_paths.{specs.declared.dijkstra.TheConstants.FAR, specs.declared.distance_table.TheConstants.APART, specs.inner.Pairs.{AddsRow, ArePairs, narrowed, pair_count, pair_place}, specs.inner.Tables.answer_of, proofs.Tables.{found_low, table_distance}}

before : (n : ℕ) → suc n * (suc n - 1) ≡ suc n * n
before n = let e : suc n - 1 ≡ n = omega arith in rw e refl

pair_count_next : (n : ℕ) → pair_count (suc n) ≡ pair_count n + n
pair_count_next zero = omega (arith, before zero)
pair_count_next (suc n) = omega (arith, before n, before (suc n))

-- one node more makes a pair with each before it
pub pair_count_more : (n : ℕ) → pair_count (n + 1) ≡ pair_count n + n
pair_count_more n = rw add-one (pair_count_next n)

pub pair_count_rises : (m n : ℕ) → m ≤ n → pair_count m ≤ pair_count n
pair_count_rises m zero le = let same : m ≡ 0 = omega arith in rw same (omega arith)
pair_count_rises m (suc n) le = ⊎_elim
    (λ less. let more : pair_count (suc n) ≡ pair_count n + n = pair_count_next n in omega (arith, pair_count_rises m n (omega arith)))
    (λ past. let same : m ≡ suc n = omega arith in rw same (le_refl (pair_count (suc n))))
    (cases_lt m (suc n))

-- each pair has its place
pub pair_place_within : (low high n : ℕ) → low < high → high < n → pair_place low high < pair_count n
pair_place_within low high n lt within = omega (arith, pair_count_more high, pair_count_rises (high + 1) n (omega arith))

-- a number that is narrowed says what it said
narrowed_low : (d : ℕ) → d ≤ FAR → (d < FAR → d < 2 ^ 39) → narrowed d ≢ APART → narrowed d < 2 ^ 39
narrowed_low d most low near = ⊎_elim (λ less. omega (arith, low less)) (λ more. absurd (near (omega arith))) (cases_lt d FAR)

narrowed_answer : (d : ℕ) → d ≤ FAR → (d < FAR → d < 2 ^ 39) → answer_of APART (narrowed d) ≡ answer_of FAR d
narrowed_answer d most low = ⊎_elim
    (λ less.
    let small = low less in
    let same : narrowed d ≡ d = omega arith in
    let near : d ≢ APART = λ e. omega (arith, e) in
    let wide : d ≢ FAR = λ e. omega (arith, e) in
    rw (same, ne_eqb d APART near, ne_eqb d FAR wide) refl)
    (λ more.
    let is : d ≡ FAR = omega arith in
    rw is refl)
    (cases_lt d FAR)

module _ (joins : ℕ → ℕ → ℕ → Type 0) (lengths : List ℕ) (short : (e : ℕ) → get_or lengths e 0 < 2 ^ 32) where
  pub pairs_more : (n : ℕ) (old new : List ℕ) → ArePairs joins lengths n old → AddsRow joins lengths FAR n old new → ArePairs joins lengths (n + 1) new
  pairs_more n old new are adds =
      let added : List ℕ = map narrowed (take n adds.found) in
      let low : (k : ℕ) → get_or adds.found k 0 < FAR → get_or adds.found k 0 < 2 ^ 39 = found_low joins lengths FAR n adds.found adds.table short adds.few in
      let long : length added ≡ n = length-map (take n adds.found) narrowed ∙ length-take-le n adds.found (omega (arith, adds.within)) in
      record {
        size = omega (arith, ap length adds.is, length-append old added, long, are.size, pair_count_more n);
        each = λ low high lt within. ⊎_elim
            (λ before.
            let place = pair_place_within low high n lt before in
            let number : get_or new (pair_place low high) 0 ≡ get_or old (pair_place low high) 0 =
            ap (λ xs. get_or xs (pair_place low high) 0) adds.is ∙ get_or_append_left old added 0 (pair_place low high) (omega (arith, are.size, place)) in
            subst (λ d. IsDistance joins lengths high low (answer_of APART d)) (sym number) (are.each low high lt before))
            (λ past.
            let same : high ≡ n = omega arith in
            let place : pair_place low high ≡ length old + low = omega (arith, are.size, ap pair_count same) in
            let number : get_or new (pair_place low high) 0 ≡ narrowed (get_or adds.found low 0) =
            ap (λ xs. get_or xs (pair_place low high) 0) adds.is
            ∙ (ap (λ k. get_or (old ++ added) k 0) place
            ∙ (get_or-append-add old added low 0
            ∙ (get_or-map narrowed (take n adds.found) low 0 0 (omega (arith, length-take-le n adds.found (omega (arith, adds.within))))
            ∙ ap narrowed (get_or-take n adds.found low 0 (omega arith))))) in
            let answer : answer_of APART (get_or new (pair_place low high) 0) ≡ answer_of FAR (get_or adds.found low 0) =
            ap (answer_of APART) number ∙ narrowed_answer (get_or adds.found low 0) (adds.table.most low) (found_low joins lengths FAR n adds.found adds.table short adds.few low) in
            subst (λ k. IsDistance joins lengths k low (answer_of APART (get_or new (pair_place low high) 0))) (sym same)
            (subst (IsDistance joins lengths n low) (sym answer) (table_distance joins lengths FAR n adds.found adds.table low (omega (arith, adds.within)))))
            (cases_lt high n);
        low = All-same (λ d. d ≢ APART → d < 2 ^ 39) new (old ++ added) adds.is (All-append (λ d. d ≢ APART → d < 2 ^ 39) old added are.low
            (All-map (λ d. d ≢ APART → d < 2 ^ 39) narrowed (take n adds.found) (All-take (λ d. narrowed d ≢ APART → narrowed d < 2 ^ 39) n adds.found
            (All-from_get_or (λ d. narrowed d ≢ APART → narrowed d < 2 ^ 39) adds.found 0 (λ k lt. narrowed_low (get_or adds.found k 0) (adds.table.most k) (low k))))));
      }

-- the distance of each two nodes, either way round
pub pairs_distance : (joins : ℕ → ℕ → ℕ → Type 0) → ((e x y : ℕ) → joins e x y → joins e y x) → (lengths : List ℕ) (n : ℕ) (pairs : List ℕ) → ArePairs joins lengths n pairs → (a b : ℕ) → a < n → b < n → IsDistance joins lengths a b (cond (eqb a b) (Some 0) (answer_of APART (get_or pairs (pair_place (min a b) (max a b)) 0)))
pairs_distance joins turns lengths n pairs are a b below within =
    ⊎_elim
    (λ same. rw (eq-eqb a b same) (subst (λ k. IsDistance joins lengths a k (Some 0)) same (distance_none joins lengths a)))
    (λ ne. rw (ne_eqb a b ne) (⊎_elim
    (λ less.
    let low : min a b ≡ a = omega arith in
    let high : max a b ≡ b = omega arith in
    rw (low, high) (distance_back joins turns lengths b a _ (are.each a b less within)))
    (λ more.
    let low : min a b ≡ b = omega arith in
    let high : max a b ≡ a = omega arith in
    rw (low, high) (are.each b a (omega (arith, ne)) below))
    (cases_lt a b)))
    (cases_eq a b)
