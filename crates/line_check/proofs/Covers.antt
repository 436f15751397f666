-- covers by one kind more
use Rattle.std.proofs.Common.{◌≡◌, ℕ, zero, suc, ◌+◌, ◌-◌, ◌*◌, ◌<◌, ◌≤◌, ◌^◌, ◌⊎◌, inl, inr, ⊎_elim, List, [], ◌∷◌, ◌++◌, length, length-append, map, min, zip, refl, ap, subst, sym, arith}
use Rattle.net_core.proofs.Library.{cases_lt, length-map, sum_by-cons}
use Rattle.line_check.{specs.CoverWeights.{CoversNeed, IsLeastWeight, total_of_kinds}, specs.inner.Rows.IsCoverBound}

pub total-cons : (x : ℕ) (xs : List ℕ) (n : ℕ) (ns : List ℕ) → total_of_kinds (x ∷ xs) (n ∷ ns) ≡ x * n + total_of_kinds xs ns
total-cons x xs n ns = sum_by-cons (λ (p : ℕ × ℕ). p.0 * p.1) (x, n) (zip xs ns)

-- one kind more
pub total-push : (xs ns : List ℕ) (a c : ℕ) → length ns ≡ length xs → total_of_kinds (xs ++ a ∷ []) (ns ++ c ∷ []) ≡ total_of_kinds xs ns + a * c
total-push [] [] a c same = omega (arith, total-cons a [] c [])
total-push [] (n ∷ ns) a c same = absurd (omega (arith, same))
total-push (x ∷ xs) [] a c same = absurd (omega (arith, same))
total-push (x ∷ xs) (n ∷ ns) a c same = omega (arith, total-cons x (xs ++ a ∷ []) n (ns ++ c ∷ []), total-cons x xs n ns, total-push xs ns a c (omega (arith, same)))

-- the number of the last kind apart
pub record IsParted (count : ℕ) (numbers : List ℕ) : Type 0 where
  pub front : List ℕ
  pub last : ℕ
  pub same : length front ≡ count
  pub are : numbers ≡ front ++ last ∷ []

pub parted : (count : ℕ) (numbers : List ℕ) → length numbers ≡ count + 1 → IsParted count numbers
parted count [] same = absurd (omega (arith, same))
parted zero (n ∷ []) same = record { front = []; last = n; same = refl; are = refl }
parted zero (n ∷ m ∷ ns) same = absurd (omega (arith, same))
parted (suc count) (n ∷ ns) same =
    let rest = parted count ns (omega (arith, same)) in
    record { front = n ∷ rest.front; last = rest.last; same = ap suc rest.same; are = ap (λ ms. n ∷ ms) rest.are }

-- none of any kind
abbrev pub none : List ℕ → List ℕ
none xs = map (λ x. 0) xs

none-weighs : (xs ws : List ℕ) → length ws ≡ length xs → total_of_kinds ws (none xs) ≡ 0
none-weighs [] [] same = refl
none-weighs [] (w ∷ ws) same = absurd (omega (arith, same))
none-weighs (x ∷ xs) [] same = absurd (omega (arith, same))
none-weighs (x ∷ xs) (w ∷ ws) same = omega (arith, total-cons w ws 0 (none xs), none-weighs xs ws (omega (arith, same)))

-- nothing covers no need
pub nothing_bounds : (sizes weights : List ℕ) → length weights ≡ length sizes → IsCoverBound sizes weights 0 0
nothing_bounds sizes weights same = record {
  at_most = λ others cover. omega arith;
  reached = inr (none sizes, record { same = length-map sizes (λ (x : ℕ). 0); enough = omega arith }, sym (none-weighs sizes weights same));
}

-- a cover with none, or with one more, of the last kind
cover_without : (sizes : List ℕ) (a need : ℕ) (ns : List ℕ) → CoversNeed sizes need ns → CoversNeed (sizes ++ a ∷ []) need (ns ++ 0 ∷ [])
cover_without sizes a need ns cover = record {
  same = omega (arith, length-append sizes (a ∷ []), length-append ns (0 ∷ []), cover.same);
  enough = omega (arith, total-push sizes ns a 0 cover.same, cover.enough);
}

cover_with : (sizes : List ℕ) (a need c : ℕ) (ns : List ℕ) → length ns ≡ length sizes → CoversNeed (sizes ++ a ∷ []) (need - a) (ns ++ c ∷ []) → CoversNeed (sizes ++ a ∷ []) need (ns ++ suc c ∷ [])
cover_with sizes a need c ns same cover = record {
  same = omega (arith, length-append sizes (a ∷ []), length-append ns (suc c ∷ []), same);
  enough = omega (arith, total-push sizes ns a c same, total-push sizes ns a (suc c) same, cover.enough);
}

-- the bounds of covers by one kind more: those of a cover with none of it, and of one with one of it at least
record Bounds (sizes weights : List ℕ) (a w need old left : ℕ) : Type 0 where
  paired : length weights ≡ length sizes
  before : IsCoverBound sizes weights need old
  after : IsCoverBound (sizes ++ a ∷ []) (weights ++ w ∷ []) (need - a) left

at_most_so : (sizes weights : List ℕ) (a w need old left : ℕ) → Bounds sizes weights a w need old left
    → (front : List ℕ) (last : ℕ) → length front ≡ length sizes → CoversNeed (sizes ++ a ∷ []) need (front ++ last ∷ []) → min old (left + w) ≤ total_of_kinds (weights ++ w ∷ []) (front ++ last ∷ [])
at_most_so sizes weights a w need old left is front zero same cover =
    let without : CoversNeed sizes need front = record { same = same; enough = omega (arith, total-push sizes front a 0 same, cover.enough) } in
    omega (arith, is.before.at_most front without, total-push weights front w 0 (omega (arith, same, is.paired)))
at_most_so sizes weights a w need old left is front (suc c) same cover =
    let fewer : CoversNeed (sizes ++ a ∷ []) (need - a) (front ++ c ∷ []) = record {
      same = omega (arith, length-append sizes (a ∷ []), length-append front (c ∷ []), same);
      enough = omega (arith, total-push sizes front a c same, total-push sizes front a (suc c) same, cover.enough);
    } in
    let long : length front ≡ length weights = omega (arith, same, is.paired) in
    omega (arith, is.after.at_most (front ++ c ∷ []) fewer, total-push weights front w c long, total-push weights front w (suc c) long)

-- what a bound says of reaching it
abbrev Reaches : List ℕ → List ℕ → ℕ → ℕ → Type 0
Reaches sizes weights need bound = (2 ^ 45 ≤ bound) ⊎ ((numbers : List ℕ) × CoversNeed sizes need numbers × (bound ≡ total_of_kinds weights numbers))

reached_without : (sizes weights : List ℕ) (a w need old bound : ℕ) → length weights ≡ length sizes → bound ≡ old → Reaches sizes weights need old → Reaches (sizes ++ a ∷ []) (weights ++ w ∷ []) need bound
reached_without sizes weights a w need old bound paired same reached = ⊎_elim
    (λ high. inl (omega (arith, high, same)))
    (λ (of : (numbers : List ℕ) × CoversNeed sizes need numbers × (old ≡ total_of_kinds weights numbers)).
    inr (of.0 ++ 0 ∷ [], cover_without sizes a need of.0 of.1, omega (arith, same, of.2, total-push weights of.0 w 0 (omega (arith, of.1.same, paired)))))
    reached

reached_with : (sizes weights : List ℕ) (a w need left bound : ℕ) → length weights ≡ length sizes → bound ≡ left + w
    → Reaches (sizes ++ a ∷ []) (weights ++ w ∷ []) (need - a) left → Reaches (sizes ++ a ∷ []) (weights ++ w ∷ []) need bound
reached_with sizes weights a w need left bound paired same reached = ⊎_elim
    (λ high. inl (omega (arith, high, same)))
    (λ (of : (numbers : List ℕ) × CoversNeed (sizes ++ a ∷ []) (need - a) numbers × (left ≡ total_of_kinds (weights ++ w ∷ []) numbers)).
    let p = parted (length sizes) of.0 (omega (arith, of.1.same, length-append sizes (a ∷ []))) in
    let cover : CoversNeed (sizes ++ a ∷ []) (need - a) (p.front ++ p.last ∷ []) = subst (λ ns. CoversNeed (sizes ++ a ∷ []) (need - a) ns) p.are of.1 in
    let long : length p.front ≡ length weights = omega (arith, p.same, paired) in
    inr (
      p.front ++ suc p.last ∷ [],
      cover_with sizes a need p.last p.front p.same cover,
      omega (arith, same, of.2, ap (λ ns. total_of_kinds (weights ++ w ∷ []) ns) p.are, total-push weights p.front w p.last long, total-push weights p.front w (suc p.last) long),
    ))
    reached

-- the bound with one kind more
pub bound_more : (sizes weights : List ℕ) (a w need old left : ℕ) → length weights ≡ length sizes → IsCoverBound sizes weights need old
    → IsCoverBound (sizes ++ a ∷ []) (weights ++ w ∷ []) (need - a) left → IsCoverBound (sizes ++ a ∷ []) (weights ++ w ∷ []) need (min old (left + w))
bound_more sizes weights a w need old left paired before after = record {
  at_most = λ others cover.
      let p = parted (length sizes) others (omega (arith, cover.same, length-append sizes (a ∷ []))) in
      let most = at_most_so sizes weights a w need old left (record { paired = paired; before = before; after = after }) p.front p.last p.same (subst (λ ns. CoversNeed (sizes ++ a ∷ []) need ns) p.are cover) in
      subst (λ ns. min old (left + w) ≤ total_of_kinds (weights ++ w ∷ []) ns) (sym p.are) most;
  reached = ⊎_elim
      (λ less. reached_without sizes weights a w need old (min old (left + w)) paired (omega (arith, less)) before.reached)
      (λ more. reached_with sizes weights a w need left (min old (left + w)) paired (omega (arith, more)) after.reached)
      (cases_lt old (left + w));
}

-- a low bound is the least weight
pub least_bound : (sizes weights : List ℕ) (need bound : ℕ) → IsCoverBound sizes weights need bound → bound < 2 ^ 45 → IsLeastWeight sizes weights need bound
least_bound sizes weights need bound is low = ⊎_elim
    (λ high. absurd (omega (arith, high, low)))
    (λ (of : (numbers : List ℕ) × CoversNeed sizes need numbers × (bound ≡ total_of_kinds weights numbers)).
    record { numbers = of.0; cover = of.1; weight = of.2; at_most = is.at_most })
    is.reached
