-- a stable sort by falling amounts, of places that rise
use Rattle.std.{proofs.Common.{◌≡◌, ℕ, zero, suc, ◌+◌, ◌<◌, ◌≤◌, ◌++◌, ◌&&◌, Bool, false, true, List, [], ◌∷◌, get_or, inl, inr, length, nat_cmp, is_lt, not, ⊎_elim, ap, arith, IsPermutation, IsSortedBy}, specs.Cmp.nat_cmp_total, proofs.lemmas.List.Sorted.{IsStrictWeakOrder-flip, ranks_by, ties_stay_sorted}}
use Rattle.net_core.proofs.Library.{range_with_len, IsStableBy, ties, cases_lt, nat_tests, get_or-range_with_len, length-range_with_len, All-permutation}
use Rattle.greedy_router.specs.inner.Orders.{AreFalling}

pub range_more : (a n j : ℕ) → a + n ≡ j → range_with_len a (n + 1) ≡ range_with_len a n ++ j ∷ []
range_more a zero j same = ap (λ k. k ∷ []) (omega (arith, same))
range_more a (suc n) j same =
    let next : suc n + 1 ≡ suc (n + 1) = omega arith in
    rw next (ap (λ ks. a ∷ ks) (range_more (a + 1) n j (omega (arith, same))))

-- a place is below their count, in another order too
pub place_below : (n : ℕ) (order : List ℕ) (i : ℕ) → IsPermutation (range_with_len 0 n) order → i < length order → get_or order i 0 < n
place_below n order i moved lt =
    let count = length-range_with_len 0 n in
    All-permutation (λ k. k < n) (range_with_len 0 n) order moved (λ k d below. omega (arith, get_or-range_with_len 0 n k d (omega (arith, count, below)), count, below)) i 0 lt

less_tells : (x y : ℕ) → is_lt (nat_cmp x y) ≡ false → y ≤ x
less_tells x y e = grind (arith, nat_tests)

not_less : (x y : ℕ) → y ≤ x → is_lt (nat_cmp x y) ≡ false
not_less x y le = grind (arith, nat_tests)

both : (a b : Bool) → a ≡ false → b ≡ false → (not a && not b) ≡ true
both a b first second = grind (arith, first, second)

module _ (amounts : List ℕ) where
  abbrev pub Higher : ℕ → ℕ → Bool
  Higher x y = is_lt (nat_cmp (get_or amounts y 0) (get_or amounts x 0))

  rising : (n : ℕ) → IsSortedBy (λ x y. is_lt (nat_cmp x y)) (range_with_len 0 n)
  rising n k d low lt =
      let long = length-range_with_len 0 n in
      not_less (get_or (range_with_len 0 n) (k + 1) d) (get_or (range_with_len 0 n) k d) (omega (arith, get_or-range_with_len 0 n (k + 1) d (omega (arith, long, lt)), get_or-range_with_len 0 n k d (omega (arith, long, lt))))

  pub falls : (n : ℕ) (order : List ℕ) → IsSortedBy Higher order → IsStableBy Higher (range_with_len 0 n) order → AreFalling amounts order
  falls n order sorted stable i lt =
      let j : ℕ = get_or order i 0 in
      let k : ℕ = get_or order (i + 1) 0 in
      let le : get_or amounts k 0 ≤ get_or amounts j 0 = less_tells _ _ (sorted i 0 (omega arith) lt) in
      ⊎_elim
      (λ below. inl below)
      (λ above.
      let same : get_or amounts k 0 ≡ get_or amounts j 0 = omega (arith, le, above) in
      let tie : ties Higher j k ≡ true = both (is_lt (nat_cmp (get_or amounts k 0) (get_or amounts j 0))) (is_lt (nat_cmp (get_or amounts j 0) (get_or amounts k 0))) (not_less _ _ above) (not_less _ _ le) in
      inr (omega (arith, le, above), less_tells _ _ (ties_stay_sorted (λ x y. is_lt (nat_cmp x y)) Higher (ranks_by nat_cmp_total (λ x. x)) (IsStrictWeakOrder-flip _ (ranks_by nat_cmp_total (λ x. get_or amounts x 0))) (range_with_len 0 n) order (rising n) stable i 0 lt tie)))
      (cases_lt (get_or amounts k 0) (get_or amounts j 0))
