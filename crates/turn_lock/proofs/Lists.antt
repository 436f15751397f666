-- Lists of which one element changes, and sums over them.
use Rattle.std.proofs.Common.{◌≡◌, ◌≢◌, ℕ, zero, suc, ◌+◌, ◌<◌, ◌≤◌, List, [], ◌∷◌, ◌++◌, length, get_or, sum_by, set, ⊎_elim, refl, sym, ap, subst, arith}
use Rattle.net_core.proofs.Library.{sum_by-set, sum_by-cons}
use Rattle.atomic_table.proofs.Lists.{at_set, at_snoc}
use mathlib.Core.Option.{some, some-injective, some-ne-none}
use lib.ListN.{get_elem?}

module _ {A : Type 0} where
  pub at_or : (l : List A) (i : ℕ) (a : A) → get_elem? l i ≡ some a → (i < length l) × (get_or l i a ≡ a)
  at_or [] i a e = absurd (some-ne-none a (sym e))
  at_or (x ∷ xs) zero a e = (omega arith, some-injective x a e)
  at_or (x ∷ xs) (suc i) a e = let r = at_or xs i a e in (omega (arith, r.0), r.1)

  -- what P says of each element, it says after a change and after an addition
  pub each_set : (P : A → Type 0) (l : List A) (i : ℕ) (b : A) → P b → ((j : ℕ) (x : A) → j ≢ i → get_elem? l j ≡ some x → P x) → (j : ℕ) (x : A) → get_elem? (set l i b) j ≡ some x → P x
  each_set P l i b new others j x e = ⊎_elim (λ t. subst P t.1 new) (λ t. others j x t.0 t.1) (at_set l i j b x e)

  pub each_snoc : (P : A → Type 0) (l : List A) (b : A) → ((j : ℕ) (x : A) → get_elem? l j ≡ some x → P x) → P b → (j : ℕ) (x : A) → get_elem? (l ++ b ∷ []) j ≡ some x → P x
  each_snoc P l b old new j x e = ⊎_elim (λ a. old j x a) (λ q. subst P q new) (at_snoc l b x j e)

  -- sums: after a change, of two terms, and of one more
  pub sum_set : (f : A → ℕ) (l : List A) (i : ℕ) (a b : A) → get_elem? l i ≡ some a → sum_by f (set l i b) + f a ≡ sum_by f l + f b
  sum_set f l i a b e = let r = at_or l i a e in subst (λ (x : A). sum_by f (set l i b) + f x ≡ sum_by f l + f b) r.1 (sum_by-set f l i b a r.0)

  pub one_below : (f : A → ℕ) (l : List A) (i : ℕ) (a : A) → get_elem? l i ≡ some a → f a ≤ sum_by f l
  one_below f [] i a e = absurd (some-ne-none a (sym e))
  one_below f (x ∷ xs) zero a e = omega (arith, sum_by-cons f x xs, ap f (some-injective x a e))
  one_below f (x ∷ xs) (suc i) a e = omega (arith, sum_by-cons f x xs, one_below f xs i a e)

  pub two_below : (f : A → ℕ) (l : List A) (i j : ℕ) (a b : A) → j ≢ i → get_elem? l i ≡ some a → get_elem? l j ≡ some b → f a + f b ≤ sum_by f l
  two_below f [] i j a b ne d e = absurd (some-ne-none a (sym d))
  two_below f (x ∷ xs) zero zero a b ne d e = absurd (ne refl)
  two_below f (x ∷ xs) zero (suc j) a b ne d e = omega (arith, sum_by-cons f x xs, ap f (some-injective x a d), one_below f xs j b e)
  two_below f (x ∷ xs) (suc i) zero a b ne d e = omega (arith, sum_by-cons f x xs, ap f (some-injective x b e), one_below f xs i a d)
  two_below f (x ∷ xs) (suc i) (suc j) a b ne d e = omega (arith, sum_by-cons f x xs, two_below f xs i j a b (λ q. ne (ap suc q)) d e)

  -- sums term by term
  pub sums_le : (f g : A → ℕ) (l : List A) → ((j : ℕ) (x : A) → get_elem? l j ≡ some x → f x ≤ g x) → sum_by f l ≤ sum_by g l
  sums_le f g [] h = omega arith
  sums_le f g (x ∷ xs) h = omega (arith, sum_by-cons f x xs, sum_by-cons g x xs, h 0 x refl, sums_le f g xs (λ j y e. h (suc j) y e))

  pub sums_lt : (f g : A → ℕ) (l : List A) (i : ℕ) (a : A) → get_elem? l i ≡ some a → ((j : ℕ) (x : A) → get_elem? l j ≡ some x → f x ≤ g x) → f a < g a → sum_by f l < sum_by g l
  sums_lt f g [] i a e h lt = absurd (some-ne-none a (sym e))
  sums_lt f g (x ∷ xs) zero a e h lt =
      let same = some-injective x a e in
      omega (arith, sum_by-cons f x xs, sum_by-cons g x xs, ap f same, ap g same, lt, sums_le f g xs (λ j y q. h (suc j) y q))
  sums_lt f g (x ∷ xs) (suc i) a e h lt = omega (arith, sum_by-cons f x xs, sum_by-cons g x xs, h 0 x refl, sums_lt f g xs i a e (λ j y q. h (suc j) y q) lt)

  pub sum_zero : (f : A → ℕ) (l : List A) → ((j : ℕ) (x : A) → get_elem? l j ≡ some x → f x ≡ 0) → sum_by f l ≡ 0
  sum_zero f [] h = refl
  sum_zero f (x ∷ xs) h = omega (arith, sum_by-cons f x xs, h 0 x refl, sum_zero f xs (λ j y e. h (suc j) y e))
