-- The capacity of a link grows module by module.
use Rattle.std.proofs.Common.{◌≡◌, ℕ, suc, ◌+◌, ◌*◌, ◌<◌, ◌≤◌, min, nat_lt, List, [], ◌∷◌, ◌++◌, length, length-take, take, get_or, true, false, Some, refl, sym, ap, subst, ◌∙◌, arith, zip, slice_get, take-suc, lt-ltb, le-ltb, ltb-true, ltb-false}
use Rattle.net_core.proofs.Library.{sum_by-cons}
use Rattle.plan_terms.specs.Terms.{Module, modules_capacity}

-- without counts
pub capacity_none : (modules : List Module) → modules_capacity modules [] ≡ 0
capacity_none [] = refl
capacity_none (m ∷ ms) = refl

-- with one module more
pub capacity_push : (modules : List Module) (counts : List ℕ) (m : Module) (n : ℕ) → slice_get modules (length counts) ≡ Some m
    → modules_capacity modules (counts ++ n ∷ []) ≡ modules_capacity modules counts + m.capacity * n
capacity_push [] counts m n at = absurd cc
capacity_push (x ∷ xs) [] m n at =
    let same : x ≡ m = cc in
    let s : modules_capacity (x ∷ xs) ([] ++ n ∷ []) ≡ x.capacity * n + modules_capacity xs [] = sum_by-cons (λ p. p.0.capacity * p.1) (x, n) (zip xs []) in
    omega (arith, s, capacity_none xs, capacity_none (x ∷ xs), ap (λ (k : Module). k.capacity * n) same)
capacity_push (x ∷ xs) (k ∷ ks) m n at =
    let s : modules_capacity (x ∷ xs) ((k ∷ ks) ++ n ∷ []) ≡ x.capacity * k + modules_capacity xs (ks ++ n ∷ []) = sum_by-cons (λ p. p.0.capacity * p.1) (x, k) (zip xs (ks ++ n ∷ [])) in
    let t : modules_capacity (x ∷ xs) (k ∷ ks) ≡ x.capacity * k + modules_capacity xs ks = sum_by-cons (λ p. p.0.capacity * p.1) (x, k) (zip xs ks) in
    omega (arith, s, t, capacity_push xs ks m n at)

-- with the next count
pub capacity_next : (modules : List Module) (counts : List ℕ) (i : ℕ) (m : Module) → i < length counts → slice_get modules i ≡ Some m
    → modules_capacity modules (take (i + 1) counts) ≡ modules_capacity modules (take i counts) + m.capacity * get_or counts i 0
capacity_next modules counts i m lt at =
    let e : suc i ≡ i + 1 = omega arith in
    let t : take (i + 1) counts ≡ take i counts ++ get_or counts i 0 ∷ [] = subst (λ (k : ℕ). take k counts ≡ take i counts ++ get_or counts i 0 ∷ []) e (take-suc counts i 0 lt) in
    let n : i ≡ length (take i counts) = omega (arith, length-take i counts, lt) in
    ap (λ (ks : List ℕ). modules_capacity modules ks) t ∙ capacity_push modules (take i counts) m (get_or counts i 0) (subst (λ (k : ℕ). slice_get modules k ≡ Some m) n at)

-- a sum that is cut off at a limit is below it where the sum is
pub below_cut : (before added limit r : ℕ) → r ≡ min (min before limit + added) limit → nat_lt r limit ≡ nat_lt (before + added) limit
below_cut before added limit r is =
    elim (nat_lt r limit) as (λ v. nat_lt r limit ≡ v → v ≡ nat_lt (before + added) limit) [
      | true ↦ λ e. sym (lt-ltb (before + added) limit (let h : r < limit = ltb-true r limit e in omega (arith, h, is)))
      | false ↦ λ e. sym (le-ltb (before + added) limit (let h : limit ≤ r = ltb-false r limit e in omega (arith, h, is)))
    ] refl
