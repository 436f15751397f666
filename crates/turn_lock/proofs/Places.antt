-- Prefixes, ascending places, how often a place is among them, and numbers in a range.
use Rattle.std.proofs.Common.{◌≡◌, ℕ, zero, suc, ◌+◌, ◌<◌, ◌≤◌, List, [], ◌∷◌, ◌++◌, length, eqb, ltb, leb, true, ◌&&◌, ⊎_elim, refl, sym, ap, ◌∙◌, arith, append_assoc, length-append, append-nil, lt-ltb, le-ltb, le-leb, eq-eqb, ne_eqb, leb-true, ltb-true, ltb-false}
use Rattle.net_core.proofs.Library.{nil_from_length, sum_by-cons, and_parts, and_from, and_left, and_right, cases_eq, cases_lt, lt-leb, cond_both, range_with_len}
use Rattle.turn_lock.{specs.Histories.{IsPrefix, longer, are_places, with_place, merged}, specs.inner.Rule.{one_where, one_within, times_at}}

-- 1 where the numbers are equal
pub one_if : (a b : ℕ) → a ≡ b → one_where (eqb a b) ≡ 1
one_if a b e = ap one_where (eq-eqb a b e)

pub none_if : (a b : ℕ) → (a ≡ b → ⊥) → one_where (eqb a b) ≡ 0
none_if a b ne = ap one_where (ne_eqb a b ne)

within_in : (low high k : ℕ) → low ≤ k → k < high → one_within low high k ≡ 1
within_in low high k a b = ap one_where (and_from (leb low k) (ltb k high) (le-leb low k a) (lt-ltb k high b))

within_before : (low high k : ℕ) → k < low → one_within low high k ≡ 0
within_before low high k l = ap one_where (and_left (leb low k) (ltb k high) (lt-leb low k l))

pub within_after : (low high k : ℕ) → high ≤ k → one_within low high k ≡ 0
within_after low high k l = ap one_where (and_right (leb low k) (ltb k high) (le-ltb k high l))

pub within_from : (high k : ℕ) → k < high → one_within 0 high k ≡ 1
within_from high k l = within_in 0 high k (omega arith) l

pub within_few : (low high k : ℕ) → one_within low high k ≤ 1
within_few low high k = cond_both (leb low k && ltb k high) 1 0 (λ (n : ℕ). n ≤ 1) (λ _. omega arith) (λ _. omega arith)

pub within_some : (low high k : ℕ) → 1 ≤ one_within low high k → (low ≤ k) × (k < high)
within_some low high k some = ⊎_elim
    (λ l. absurd (omega (arith, some, within_before low high k l)))
    (λ a. ⊎_elim (λ b. (a, b)) (λ h. absurd (omega (arith, some, within_after low high k h))) (cases_lt k high))
    (cases_lt k low)

-- one number more at the upper end
pub within_more : (low high k : ℕ) → low ≤ high → one_within low (high + 1) k ≡ one_within low high k + one_where (eqb high k)
within_more low high k le = ⊎_elim
    (λ l. omega (arith, within_before low (high + 1) k l, within_before low high k l, none_if high k (λ e. omega arith)))
    (λ a. ⊎_elim
    (λ b. omega (arith, within_in low (high + 1) k a (omega arith), within_in low high k a b, none_if high k (λ e. omega arith)))
    (λ h. ⊎_elim
    (λ e. omega (arith, within_in low (high + 1) k a (omega arith), within_after low high k h, one_if high k e))
    (λ ne. omega (arith, within_after low (high + 1) k (omega (arith, ne)), within_after low high k h, none_if high k ne))
    (cases_eq high k))
    (cases_lt k high))
    (cases_lt k low)

-- one number less at the lower end
pub within_less : (low high k : ℕ) → low < high → one_within low high k ≡ one_within (low + 1) high k + one_where (eqb low k)
within_less low high k lt = ⊎_elim
    (λ l. omega (arith, within_before low high k l, within_before (low + 1) high k (omega arith), none_if low k (λ e. omega arith)))
    (λ a. ⊎_elim
    (λ b. ⊎_elim
    (λ e. omega (arith, within_in low high k a b, within_before (low + 1) high k (omega arith), one_if low k e))
    (λ ne. omega (arith, within_in low high k a b, within_in (low + 1) high k (omega (arith, ne)) b, none_if low k ne))
    (cases_eq low k))
    (λ h. omega (arith, within_after low high k h, within_after (low + 1) high k h, none_if low k (λ e. omega arith)))
    (cases_lt k high))
    (cases_lt k low)

module _ {I : Type 0} where
  pub prefix_same : (xs : List I) → IsPrefix xs xs
  prefix_same xs = ([], append-nil xs)

  pub prefix_le : (xs ys : List I) → IsPrefix xs ys → length xs ≤ length ys
  prefix_le xs ys b = omega (arith, length-append xs b.0, ap length b.1)

  pub prefix_more : (xs log new : List I) (item : I) → new ≡ log ++ item ∷ [] → IsPrefix xs log → IsPrefix xs new
  prefix_more xs log new item more b = (b.0 ++ item ∷ [], sym (append_assoc xs b.0 (item ∷ [])) ∙ (ap (λ ys. ys ++ item ∷ []) b.1 ∙ sym more))

  -- a prefix that isn't shorter is the whole list
  pub prefix_all : (xs ys : List I) → IsPrefix xs ys → length ys ≤ length xs → ys ≡ xs
  prefix_all xs ys b le = sym b.1 ∙ (ap (λ rest. xs ++ rest) (nil_from_length b.0 (omega (arith, length-append xs b.0, ap length b.1, le))) ∙ append-nil xs)

  -- of two prefixes of one list the shorter is a prefix of the longer
  shorter_begins : (log xs ys : List I) → IsPrefix xs log → IsPrefix ys log → length xs ≤ length ys → IsPrefix xs ys
  shorter_begins log [] ys a b le = (ys, refl)
  shorter_begins log (x ∷ xs) [] a b le = absurd (omega arith)
  shorter_begins [] (x ∷ xs) (y ∷ ys) a b le = cc (a.1)
  shorter_begins (z ∷ log) (x ∷ xs) (y ∷ ys) a b le =
      let head : x ≡ y = cc (a.1, b.1) in
      let rest_x : xs ++ a.0 ≡ log = cc (a.1) in
      let rest_y : ys ++ b.0 ≡ log = cc (b.1) in
      let r = shorter_begins log xs ys (a.0, rest_x) (b.0, rest_y) (omega arith) in
      (r.0, λ i. head i ∷ r.1 i)

  pub both_begin_longer : (log xs ys : List I) → IsPrefix xs log → IsPrefix ys log → IsPrefix xs (longer xs ys) × IsPrefix ys (longer xs ys)
  both_begin_longer log xs ys a b = cond_both (ltb (length xs) (length ys)) ys xs (λ zs. IsPrefix xs zs × IsPrefix ys zs)
      (λ e. (shorter_begins log xs ys a b (omega (arith, ltb-true (length xs) (length ys) e)), prefix_same ys))
      (λ e. (prefix_same xs, shorter_begins log ys xs b a (omega (arith, ltb-false (length xs) (length ys) e))))

  pub longer_of : (P : List I → Type 0) (xs ys : List I) → P xs → P ys → P (longer xs ys)
  longer_of P xs ys a b = cond_both (ltb (length xs) (length ys)) ys xs P (λ _. b) (λ _. a)

  pub longer_le : (xs ys : List I) → (length xs ≤ length (longer xs ys)) × (length ys ≤ length (longer xs ys))
  longer_le xs ys = cond_both (ltb (length xs) (length ys)) ys xs (λ zs. (length xs ≤ length zs) × (length ys ≤ length zs))
      (λ e. (omega (arith, ltb-true (length xs) (length ys) e), omega arith))
      (λ e. (omega arith, omega (arith, ltb-false (length xs) (length ys) e)))

-- the first place, and the others
pub first_place : (low high p : ℕ) (ps : List ℕ) → are_places low high (p ∷ ps) ≡ true → (low ≤ p) × (p < high) × (are_places (p + 1) high ps ≡ true)
first_place low high p ps h =
    let a = and_parts (leb low p) (ltb p high && are_places (p + 1) high ps) h in
    let b = and_parts (ltb p high) (are_places (p + 1) high ps) a.1 in
    (leb-true low p a.0, ltb-true p high b.0, b.1)

place_before : (low high p : ℕ) (ps : List ℕ) → low ≤ p → p < high → are_places (p + 1) high ps ≡ true → are_places low high (p ∷ ps) ≡ true
place_before low high p ps a b rest = and_from (leb low p) (ltb p high && are_places (p + 1) high ps) (le-leb low p a) (and_from (ltb p high) (are_places (p + 1) high ps) (lt-ltb p high b) rest)

pub wider : (low low' high high' : ℕ) (ps : List ℕ) → low' ≤ low → high ≤ high' → are_places low high ps ≡ true → are_places low' high' ps ≡ true
wider low low' high high' [] a b h = refl
wider low low' high high' (p ∷ ps) a b h =
    let f = first_place low high p ps h in
    place_before low' high' p ps (omega (arith, f.0, a)) (omega (arith, f.1, b)) (wider (p + 1) (p + 1) high high' ps (omega arith) b f.2)

-- the next place is put last
pub place_last : (low n : ℕ) (ps : List ℕ) → low ≤ n → are_places low n ps ≡ true → are_places low (n + 1) (ps ++ n ∷ []) ≡ true
place_last low n [] le h = place_before low (n + 1) n [] le (omega arith) refl
place_last low n (p ∷ ps) le h =
    let f = first_place low n p ps h in
    place_before low (n + 1) p (ps ++ n ∷ []) f.0 (omega (arith, f.1)) (place_last (p + 1) n ps (omega (arith, f.1)) f.2)

pub times_cons : (p q : ℕ) (qs : List ℕ) → times_at p (q ∷ qs) ≡ one_where (eqb q p) + times_at p qs
times_cons p q qs = sum_by-cons (λ (k : ℕ). one_where (eqb k p)) q qs

times_before : (low high p : ℕ) (ps : List ℕ) → p < low → are_places low high ps ≡ true → times_at p ps ≡ 0
times_before low high p [] l h = refl
times_before low high p (q ∷ qs) l h =
    let f = first_place low high q qs h in
    omega (arith, times_cons p q qs, none_if q p (λ e. omega (arith, f.0, l)), times_before (q + 1) high p qs (omega (arith, f.0, l)) f.2)

pub times_after : (low high p : ℕ) (ps : List ℕ) → high ≤ p → are_places low high ps ≡ true → times_at p ps ≡ 0
times_after low high p [] l h = refl
times_after low high p (q ∷ qs) l h =
    let f = first_place low high q qs h in
    omega (arith, times_cons p q qs, none_if q p (λ e. omega (arith, f.1, l)), times_after (q + 1) high p qs l f.2)

times_with : (p y : ℕ) (ps : List ℕ) → times_at p (with_place y ps) ≡ times_at p ps + one_where (eqb y p)
times_with p y [] = times_cons p y [] ∙ omega arith
times_with p y (q ∷ qs) = cond_both (ltb y q) (y ∷ q ∷ qs) (q ∷ with_place y qs) (λ l. times_at p l ≡ times_at p (q ∷ qs) + one_where (eqb y p))
    (λ _. omega (arith, times_cons p y (q ∷ qs)))
    (λ _. omega (arith, times_cons p q (with_place y qs), times_cons p q qs, times_with p y qs))

pub times_merged : (p : ℕ) (ps qs : List ℕ) → times_at p (merged ps qs) ≡ times_at p ps + times_at p qs
times_merged p ps [] = omega arith
times_merged p ps (q ∷ qs) = omega (arith, times_with p q (merged ps qs), times_merged p ps qs, times_cons p q qs)

with_ascends : (low high y : ℕ) (ps : List ℕ) → low ≤ y → y < high → times_at y ps ≡ 0 → are_places low high ps ≡ true → are_places low high (with_place y ps) ≡ true
with_ascends low high y [] a b none h = place_before low high y [] a b refl
with_ascends low high y (q ∷ qs) a b none h =
    let f = first_place low high q qs h in
    let other : q ≡ y → ⊥ = λ e. omega (arith, none, times_cons y q qs, one_if q y e) in
    cond_both (ltb y q) (y ∷ q ∷ qs) (q ∷ with_place y qs) (λ l. are_places low high l ≡ true)
    (λ e. place_before low high y (q ∷ qs) a b (place_before (y + 1) high q qs (omega (arith, ltb-true y q e)) f.1 f.2))
    (λ e. place_before low high q (with_place y qs) f.0 f.1 (with_ascends (q + 1) high y qs (omega (arith, ltb-false y q e, other)) b (omega (arith, none, times_cons y q qs)) f.2))

-- places that are different ascend after they are made one list
pub merged_ascends : (low high : ℕ) (ps qs : List ℕ) → are_places 0 high ps ≡ true → are_places low high qs ≡ true → ((p : ℕ) → times_at p ps + times_at p qs ≤ 1) → are_places 0 high (merged ps qs) ≡ true
merged_ascends low high ps [] a b once = a
merged_ascends low high ps (q ∷ qs) a b once =
    let f = first_place low high q qs b in
    with_ascends 0 high q (merged ps qs) (omega arith) f.1
    (omega (arith, times_merged q ps qs, once q, times_cons q q qs, one_if q q refl))
    (merged_ascends (q + 1) high ps qs a f.2 (λ p. omega (arith, once p, times_cons p q qs)))

-- places that have all numbers of a range are the range
pub all_places : (low n : ℕ) (ps : List ℕ) → are_places low (low + n) ps ≡ true → ((p : ℕ) → low ≤ p → p < low + n → times_at p ps ≡ 1) → ps ≡ range_with_len low n
all_places low zero [] h all = refl
all_places low zero (p ∷ ps) h all = let f = first_place low (low + 0) p ps h in absurd (omega (arith, f.0, f.1))
all_places low (suc n) [] h all = absurd (omega (arith, all low (omega arith) (omega arith)))
all_places low (suc n) (p ∷ ps) h all =
    let f = first_place low (low + suc n) p ps h in
    ⊎_elim
    (λ (e : low ≡ p).
    let rest = all_places (low + 1) n ps (wider (p + 1) (low + 1) (low + suc n) (low + 1 + n) ps (omega (arith, e)) (omega arith) f.2)
    (λ q a b. omega (arith, all q (omega (arith, a)) (omega (arith, b)), times_cons q p ps, none_if p q (λ d. omega (arith, d, e, a)))) in
    λ i. sym e i ∷ rest i)
    (λ ne. absurd (omega (arith, all low (omega arith) (omega arith), times_cons low p ps, none_if p low (λ d. ne (sym d)), times_before (p + 1) (low + suc n) low ps (omega (arith, f.0)) f.2)))
    (cases_eq low p)
