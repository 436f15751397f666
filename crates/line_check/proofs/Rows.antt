-- rows of a table of least weights
use Rattle.std.proofs.Common.{◌≡◌, ℕ, zero, suc, ◌+◌, ◌-◌, ◌*◌, ◌<◌, ◌≤◌, ◌^◌, ⊎_elim, List, [], ◌∷◌, ◌++◌, length, length-append, length-take, slice_index, take, subst, sym, arith}
use Rattle.net_core.proofs.Library.{cases_lt, get_or_append_left, get_or_push, take_more}
use Rattle.line_check.{specs.CoverWeights.IsLeastWeight, specs.inner.Rows.{AreCoverBounds, IsCoverBound, IsNextRow}, proofs.Covers.{bound_more, least_bound, nothing_bounds}}

-- a row's entry bounds the covers of its place, and is low
record IsLowBound (sizes weights : List ℕ) (r bound : ℕ) : Type 0 where
  is : IsCoverBound sizes weights r bound
  low : bound ≤ r * 2 ^ 32

-- all entries below a place
below_bounds : (sizes weights row next : List ℕ) (a w n : ℕ) → length weights ≡ length sizes → 0 < a → w < 2 ^ 32 → n ≤ length next → IsNextRow row a w next → AreCoverBounds sizes weights row
    → (r : ℕ) → r < n → IsLowBound (sizes ++ a ∷ []) (weights ++ w ∷ []) r (slice_index next r)
below_bounds sizes weights row next a w zero paired some light within is bounds r lt = absurd (omega arith)
below_bounds sizes weights row next a w (suc n) paired some light within is bounds zero lt = record {
  is = subst (λ b. IsCoverBound (sizes ++ a ∷ []) (weights ++ w ∷ []) 0 b) (sym is.front.first) (nothing_bounds (sizes ++ a ∷ []) (weights ++ w ∷ []) (omega (arith, paired, length-append sizes (a ∷ []), length-append weights (w ∷ []))));
  low = omega (arith, is.front.first);
}
below_bounds sizes weights row next a w (suc n) paired some light within is bounds (suc r) lt =
    let before = below_bounds sizes weights row next a w n paired some light (omega (arith, within)) is bounds (suc r - a) (omega (arith, lt, some)) in
    let e = is.front.each (suc r) (omega arith) (omega (arith, lt, within)) in
    let old = bounds (suc r) (omega arith) (omega (arith, lt, within, is.same)) in
    record {
      is = subst (λ b. IsCoverBound (sizes ++ a ∷ []) (weights ++ w ∷ []) (suc r) b) (sym e) (bound_more sizes weights a w (suc r) (slice_index row (suc r)) (slice_index next (suc r - a)) paired old before.is);
      low = omega (arith, e, before.low, light, some);
    }

-- what the loop over the kinds has so far, with the next row
pub record IsStep (sizes weights row next : List ℕ) (k need : ℕ) : Type 0 where
  pub inside : k < length sizes
  pub same : length weights ≡ length sizes
  pub some : 0 < slice_index sizes k
  pub light : slice_index weights k < 2 ^ 32
  pub known : AreCoverBounds (take k sizes) (take k weights) row
  pub made : IsNextRow row (slice_index sizes k) (slice_index weights k) next
  pub count : length row ≡ need + 1
  pub few : need ≤ 4096

next_low : (sizes weights row next : List ℕ) (k need : ℕ) → IsStep sizes weights row next k need
    → (r : ℕ) → r < length next → IsLowBound (take (k + 1) sizes) (take (k + 1) weights) r (slice_index next r)
next_low sizes weights row next k need is r lt =
    let a = slice_index sizes k in
    let w = slice_index weights k in
    let here : k < length weights = omega (arith, is.inside, is.same) in
    let low = below_bounds (take k sizes) (take k weights) row next a w (length next) (omega (arith, length-take k sizes, length-take k weights, is.inside, is.same)) is.some is.light (omega arith) is.made is.known r lt in
    subst (λ xs. IsLowBound xs (take (k + 1) weights) r (slice_index next r)) (sym (take_more sizes k 0 is.inside))
    (subst (λ xs. IsLowBound (take k sizes ++ a ∷ []) xs r (slice_index next r)) (sym (take_more weights k 0 here)) low)

pub bounds_more : (sizes weights row next : List ℕ) (k need : ℕ) → IsStep sizes weights row next k need → AreCoverBounds (take (k + 1) sizes) (take (k + 1) weights) next
bounds_more sizes weights row next k need is r some lt = (next_low sizes weights row next k need is r lt).is

pub least_at : (sizes weights row next : List ℕ) (k need : ℕ) → IsStep sizes weights row next k need → IsLeastWeight (take (k + 1) sizes) (take (k + 1) weights) need (slice_index next need)
least_at sizes weights row next k need is =
    let low = next_low sizes weights row next k need is need (omega (arith, is.count, is.made.same)) in
    least_bound (take (k + 1) sizes) (take (k + 1) weights) need (slice_index next need) low.is (omega (arith, low.low, is.few))

-- what holds of each number of a list, with one more
pub listed_more : (P : ℕ → ℕ → Type 0) (xs : List ℕ) (k x : ℕ) → length xs ≡ k → ((j : ℕ) → j < k → P j (slice_index xs j)) → P k x → (j : ℕ) → j < k + 1 → P j (slice_index (xs ++ x ∷ []) j)
listed_more P xs k x same each next j lt = ⊎_elim
    (λ less. subst (P j) (sym (get_or_append_left xs (x ∷ []) 0 j (omega (arith, less, same)))) (each j less))
    (λ more. let e : k ≡ j = omega (arith, more, lt) in
    subst (P j) (sym (get_or_push xs x 0 j (omega (arith, same, e)))) (subst (λ i. P i x) e next))
    (cases_lt j k)
