-- unit pairs of links, one after the other
use Rattle.std.proofs.Common.{◌≡◌, ℕ, zero, suc, ◌+◌, ◌^◌, ◌<◌, ◌++◌, ◌⊎◌, ⊎_elim, inl, inr, All, List, [], ◌∷◌, Some, length, length-append, get_or, slice_get, refl, sym, ap, ◌∙◌, subst, arith}
use Rattle.net_core.proofs.Library.{All-push, slice_get-get_or}
use Rattle.plan_terms.specs.Terms.{Link}
use Rattle.module_prices.specs.declared.cheapest.UnitPair.{UnitPair}
use Rattle.master_law.specs.Terms.{IsPairOfLink}

-- the pairs of the first n links
abbrev pub ArePairsBelow : List Link → List UnitPair → ℕ → Type 0
ArePairsBelow links pairs n = (length pairs ≡ n) × All (λ p. p.cost < 2 ^ 40) pairs × ((e : ℕ) (l : Link) (p : UnitPair) → slice_get links e ≡ Some l → slice_get pairs e ≡ Some p → IsPairOfLink l.modules p)

-- an item of a list with one more is of the list, or the last
last_or_before : {X : Type 0} (xs : List X) (y x : X) (i : ℕ) → slice_get (xs ++ y ∷ []) i ≡ Some x → (slice_get xs i ≡ Some x) ⊎ ((i ≡ length xs) × (y ≡ x))
last_or_before [] y x zero at = inr (refl, cc at)
last_or_before [] y x (suc i) at = absurd (cc at)
last_or_before (z ∷ zs) y x zero at = inl at
last_or_before (z ∷ zs) y x (suc i) at = ⊎_elim (λ before. inl before) (λ last. inr (ap suc last.0, last.1)) (last_or_before zs y x i at)

-- the next link's pair comes after those before it
pub pairs_more : (links : List Link) (pairs more : List UnitPair) (n : ℕ) (d : Link) (p : UnitPair) → more ≡ pairs ++ p ∷ [] → n < length links
    → IsPairOfLink (get_or links n d).modules p → p.cost < 2 ^ 40 → ArePairsBelow links pairs n → ArePairsBelow links more (n + 1)
pairs_more links pairs more n d p is inside pair low before =
    let count : length more ≡ n + 1 = omega (arith, ap length is, length-append pairs (p ∷ []), before.0) in
    let each : (e : ℕ) (l : Link) (q : UnitPair) → slice_get links e ≡ Some l → slice_get (pairs ++ p ∷ []) e ≡ Some q → IsPairOfLink l.modules q =
    λ e l q at here. ⊎_elim
    (λ earlier. before.2 e l q at earlier)
    (λ last.
    let same : get_or links n d ≡ l = cc (sym (slice_get-get_or links n d inside) ∙ (ap (slice_get links) (sym (last.0 ∙ before.0)) ∙ at)) in
    subst (λ x. IsPairOfLink l.modules x) last.1 (subst (λ (k : Link). IsPairOfLink k.modules p) same pair))
    (last_or_before pairs p q e here) in
    (count, subst (All (λ q. q.cost < 2 ^ 40)) (sym is) (All-push (λ q. q.cost < 2 ^ 40) pairs p before.1 low), λ e l q at here. each e l q at (subst (λ xs. slice_get xs e ≡ Some q) is here))
