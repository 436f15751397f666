-- rising lists of kinds
use Rattle.std.proofs.Common.{◌≡◌, ℕ, zero, suc, ◌<◌, ◌≤◌, ◌⊎◌, inl, inr, ⊎_elim, List, [], ◌∷◌, Contains, length, slice_index_or, refl, ap, subst, sym, ◌∙◌, arith}
use Rattle.net_core.proofs.Library.{get_or_default, none_within}
use Rattle.plan_terms.specs.Terms.{Link}
use Rattle.line_check.{specs.Lines.AreKinds, specs.declared.inequality.Inequality.Inequality, proofs.KindWeights.{AreRising, rising_head, rising_tail}}

-- ---- one rising list of these members

-- an item of a list is its first number, or one of the others
at_place : (x : ℕ) (xs : List ℕ) (n k : ℕ) → k < length (x ∷ xs) → slice_index_or (x ∷ xs) k n ≡ n → (x ≡ n) ⊎ Contains xs n
at_place x xs n zero inside is = inl is
at_place x xs n (suc k) inside is = inr (k, omega (arith, inside), is)

contains_cases : (x : ℕ) (xs : List ℕ) (n : ℕ) → Contains (x ∷ xs) n → (x ≡ n) ⊎ Contains xs n
contains_cases x xs n has = at_place x xs n has.0 has.1 has.2

at_first : (x : ℕ) (xs : List ℕ) → Contains (x ∷ xs) x
at_first x xs = (0, omega arith, refl)

at_later : (x : ℕ) (xs : List ℕ) (n : ℕ) → Contains xs n → Contains (x ∷ xs) n
at_later x xs n has = (suc has.0, omega (arith, has.1), has.2)

-- the others are above the first
above_first : (x : ℕ) (xs : List ℕ) (n : ℕ) → AreRising (x ∷ xs) → Contains xs n → x < n
above_first x xs n rising has = omega (arith, rising_head x xs has.0 rising has.1, get_or_default xs has.0 0 n has.1, has.2)

not_below : (x : ℕ) (xs : List ℕ) (n : ℕ) → AreRising (x ∷ xs) → Contains (x ∷ xs) n → x ≤ n
not_below x xs n rising has = ⊎_elim (λ (same : x ≡ n). omega (arith, same)) (λ (later : Contains xs n). omega (arith, above_first x xs n rising later)) (contains_cases x xs n has)

-- where each number of one list is in another that begins alike, its others are among the others of that
others_within : (x : ℕ) (xs ys : List ℕ) → AreRising (x ∷ xs) → ((n : ℕ) → Contains (x ∷ xs) n → Contains (x ∷ ys) n) → (n : ℕ) → Contains xs n → Contains ys n
others_within x xs ys rising within n has = ⊎_elim
    (λ (same : x ≡ n). absurd (omega (arith, same, above_first x xs n rising has)))
    (λ (later : Contains ys n). later)
    (contains_cases x ys n (within n (at_later x xs n has)))

pub rising_same : (xs ys : List ℕ) → AreRising xs → AreRising ys → ((n : ℕ) → Contains xs n → Contains ys n) → ((n : ℕ) → Contains ys n → Contains xs n) → xs ≡ ys
rising_same [] [] rx ry there back = refl
rising_same [] (y ∷ ys) rx ry there back = absurd (none_within y (back y (at_first y ys)))
rising_same (x ∷ xs) [] rx ry there back = absurd (none_within x (there x (at_first x xs)))
rising_same (x ∷ xs) (y ∷ ys) rx ry there back =
    let same : x ≡ y = omega (arith, not_below y ys x ry (there x (at_first x xs)), not_below x xs y rx (back y (at_first y ys))) in
    let ry' = subst (λ n. AreRising (n ∷ ys)) (sym same) ry in
    let there' = subst (λ k. (n : ℕ) → Contains (x ∷ xs) n → Contains (k ∷ ys) n) (sym same) there in
    let back' = subst (λ k. (n : ℕ) → Contains (k ∷ ys) n → Contains (x ∷ xs) n) (sym same) back in
    ap (λ rest. x ∷ rest) (rising_same xs ys (rising_tail x xs rx) (rising_tail y ys ry) (others_within x xs ys rx there') (others_within x ys xs ry' back'))
    ∙ ap (λ n. n ∷ ys) same

pub kinds_same : (links : List Link) (over : Inequality) (xs ys : List ℕ) → AreKinds links over xs → AreKinds links over ys → xs ≡ ys
kinds_same links over xs ys are_xs are_ys =
    rising_same xs ys are_xs.rising are_ys.rising (λ n has. (are_ys.each n).1 ((are_xs.each n).0 has)) (λ n has. (are_xs.each n).1 ((are_ys.each n).0 has))
