-- pairs of the items of two lists, one after the other
use Rattle.std.proofs.Common.{ℕ, ◌+◌, ◌-◌, ◌<◌, List, ◌++◌, AllPairs, Any, length, min, take, get_or, refl, sym, ◌∙◌, arith, subst, ⊎_elim, get_or-take, length-append, length-take}
use Rattle.net_core.proofs.Library.{cases_lt, get_or-append_right, get_or_append_left}

-- pairs of either list, and across them
pub pairs_append : {X : Type 0} (R : X → X → Type 0) (xs ys : List X) → AllPairs R xs → AllPairs R ys → ((i j : ℕ) (d : X) → i < length xs → j < length ys → R (get_or xs i d) (get_or ys j d)) → AllPairs R (xs ++ ys)
pairs_append R xs ys first second across i j d ij lj =
    let n = length xs in
    let long : j < n + length ys = subst (λ m. j < m) (length-append xs ys) lj in
    ⊎_elim
    (λ l. subst (λ x. R x (get_or (xs ++ ys) j d)) (sym (get_or_append_left xs ys d i (omega (arith, ij, l)))) (subst (λ y. R (get_or xs i d) y) (sym (get_or_append_left xs ys d j l)) (first i j d ij l)))
    (λ g. ⊎_elim
    (λ li. subst (λ x. R x (get_or (xs ++ ys) j d)) (sym (get_or_append_left xs ys d i li)) (subst (λ y. R (get_or xs i d) y) (sym (get_or-append_right xs ys (length xs) j d refl g)) (across i (j - n) d li (omega (arith, long, g)))))
    (λ gi. subst (λ x. R x (get_or (xs ++ ys) j d)) (sym (get_or-append_right xs ys (length xs) i d refl gi)) (subst (λ y. R (get_or ys (i - n) d) y) (sym (get_or-append_right xs ys (length xs) j d refl g)) (second (i - n) (j - n) d (omega (arith, ij, gi)) (omega (arith, long, g)))))
    (cases_lt i n))
    (cases_lt j n)

-- pairs of the first items
pub pairs_take : {X : Type 0} (R : X → X → Type 0) (n : ℕ) (xs : List X) → AllPairs R xs → AllPairs R (take n xs)
pairs_take R n xs all i j d ij lj =
    let short : (j < n) × (j < length xs) = within j n (length xs) (subst (λ m. j < m) (length-take n xs) lj) in
    subst (λ x. R x (get_or (take n xs) j d)) (sym (get_or-take n xs i d (omega (arith, ij, short.0)))) (subst (λ y. R (get_or xs i d) y) (sym (get_or-take n xs j d short.0)) (all i j d ij short.1))
  where
    within : (j n l : ℕ) → j < min n l → (j < n) × (j < l)
    within j n l lt = (omega (arith, lt), omega (arith, lt))

-- what one list has, a longer one has too
pub any_more : {X : Type 0} (P : X → Type 0) (xs ys : List X) → Any P xs → Any P (xs ++ ys)
any_more P xs ys h = (h.0, h.1, subst (λ n. h.0 < n) (sym (length-append xs ys)) (longer h.0 (length xs) (length ys) h.2), get_or_append_left xs ys h.1 h.0 h.2 ∙ h.3, h.4)
  where
    longer : (k n m : ℕ) → k < n → k < n + m
    longer k n m l = omega (arith, l)
