-- all pairs of nodes: how they grow row by row, how many there are, and that they are pairs of nodes
use Rattle.std.{proofs.Common.{◌≡◌, ℕ, zero, suc, ◌+◌, ◌-◌, ◌*◌, ◌/◌, ◌≤◌, ◌<◌, List, [], ◌∷◌, ◌++◌, map, length, All, arith, ap, refl, sym, subst, ◌∙◌, append-nil, append_assoc, length-append, flat_map}, proofs.lemmas.List.Concat.flat_map-append}
use Rattle.net_core.proofs.Library.{range_with_len, All-append, All-nil, length-map-range_with_len, map-range_with_len_more, mul-le}
use Rattle.sample_net.{specs.Samples.{pairs_of, sample_pairs}, proofs.Sequence.all_made}

-- one pair more of node i
pub pair_more : (before pairs : List (ℕ × ℕ)) (i j : ℕ) → i + 1 ≤ j → pairs ≡ before ++ map (λ k. (i, k)) (range_with_len (i + 1) (j - (i + 1)))
    → pairs ++ (i, j) ∷ [] ≡ before ++ map (λ k. (i, k)) (range_with_len (i + 1) (j + 1 - (i + 1)))
pair_more before pairs i j le e =
    let f : ℕ → ℕ × ℕ = λ k. (i, k) in
    let row : List (ℕ × ℕ) = map f (range_with_len (i + 1) (j - (i + 1))) in
    let more : map f (range_with_len (i + 1) (j + 1 - (i + 1))) ≡ row ++ (i, j) ∷ [] =
    subst (λ m. map f (range_with_len (i + 1) m) ≡ row ++ (i, j) ∷ []) (omega (arith, le)) (map-range_with_len_more f (i + 1) (j - (i + 1)) j (omega (arith, le))) in
    ap (λ ps. ps ++ (i, j) ∷ []) e ∙ append_assoc before row ((i, j) ∷ []) ∙ ap (λ ps. before ++ ps) (sym more)

-- a range with one number more
range_more : (a n j : ℕ) → a + n ≡ j → range_with_len a (suc n) ≡ range_with_len a n ++ j ∷ []
range_more a zero j e =
    let same : a ≡ j = omega (arith, e) in
    ap (λ k. k ∷ []) same
range_more a (suc n) j e = ap (λ xs. a ∷ xs) (range_more (a + 1) n j (omega (arith, e)))

-- the row of node i more
pub row_more : (n : ℕ) (pairs : List (ℕ × ℕ)) (i : ℕ) → pairs ≡ flat_map (pairs_of n) (range_with_len 0 i) → pairs ++ pairs_of n i ≡ flat_map (pairs_of n) (range_with_len 0 (i + 1))
row_more n pairs i e =
    let same : i + 1 ≡ suc i = omega arith in
    sym (
    ap (λ k. flat_map (pairs_of n) (range_with_len 0 k)) same ∙ ap (flat_map (pairs_of n)) (range_more 0 i i (omega arith)) ∙ flat_map-append (pairs_of n) (range_with_len 0 i) (i ∷ [])
    ∙ ap (λ ps. flat_map (pairs_of n) (range_with_len 0 i) ++ ps) (append-nil (pairs_of n i)) ∙ ap (λ ps. ps ++ pairs_of n i) (sym e)
    )

square_more : (k : ℕ) → suc k * suc k ≡ k * k + 2 * k + 1
square_more k = omega arith

-- the rows of the last k of n nodes have k (k - 1) / 2 pairs
rows_long : (n a k : ℕ) → a + k ≡ n → 2 * length (flat_map (pairs_of n) (range_with_len a k)) + k ≡ k * k
rows_long n a zero e = refl
rows_long n a (suc k) e =
    let row : length (pairs_of n a) ≡ n - (a + 1) = length-map-range_with_len (λ j. (a, j)) (a + 1) (n - (a + 1)) in
    omega (arith, e, row, length-append (pairs_of n a) (flat_map (pairs_of n) (range_with_len (a + 1) k)), rows_long n (a + 1) k (omega (arith, e)), square_more k)

pub pairs_long : (n : ℕ) → 2 * length (sample_pairs n) + n ≡ n * n
pairs_long n = rows_long n 0 n (omega arith)

-- up to 40 nodes have at most 780 pairs
pub pairs_few : (n : ℕ) → n ≤ 40 → length (sample_pairs n) ≤ 780
pairs_few n le = omega (arith, pairs_long n, mul-le n n 40 n le (omega arith))

half_of : (l m : ℕ) → 2 * l + suc m ≡ suc m * suc m → l ≡ suc m * (suc m - 1) / 2
half_of l m e =
    let back : suc m - 1 ≡ m = omega arith in
    let square : suc m * suc m ≡ suc m * m + suc m = omega arith in
    subst (λ k. l ≡ suc m * k / 2) (sym back) (omega (arith, e, square))

pub pairs_count : (n : ℕ) → length (sample_pairs n) ≡ n * (n - 1) / 2
pairs_count zero = refl
pairs_count (suc m) = half_of (length (sample_pairs (suc m))) m (pairs_long (suc m))

-- two nodes, the earlier first
pub record AreOrdered (n : ℕ) (p : ℕ × ℕ) : Type 0 where
  pub before : p.0 < p.1
  pub within : p.1 < n

rows_ordered : (n a k : ℕ) → a + k ≡ n → All (AreOrdered n) (flat_map (pairs_of n) (range_with_len a k))
rows_ordered n a zero e = All-nil (AreOrdered n)
rows_ordered n a (suc k) e =
    All-append (AreOrdered n) (pairs_of n a) (flat_map (pairs_of n) (range_with_len (a + 1) k))
    (all_made (AreOrdered n) (λ j. (a, j)) (a + 1) (n - (a + 1)) (λ i lt. record { before = omega arith; within = omega (arith, e, lt) }))
    (rows_ordered n (a + 1) k (omega (arith, e)))

pub pairs_ordered : (n : ℕ) → All (AreOrdered n) (sample_pairs n)
pairs_ordered n = rows_ordered n 0 n (omega arith)
