-- draws that follow other draws, and lists that are made place by place
use Rattle.std.proofs.Common.{◌≡◌, ℕ, zero, suc, ◌+◌, ◌/◌, ◌^◌, ◌<◌, List, [], ◌∷◌, ◌++◌, map, get_or, All, AllPairs, arith, ap, refl, sym, subst, ◌∙◌}
use Rattle.net_core.proofs.Library.{range_with_len, get_or-map-range_with_len, length-map-range_with_len, map-range_with_len_more, mod_below}
use Rattle.sample_net.specs.Draws.{drawn, next_number, nth_draw, nth_number}

-- one step more
pub step_more : (x y z k : ℕ) → z ≡ next_number y → y ≡ nth_number x k → z ≡ nth_number x (k + 1)
step_more x y z k e before =
    let same : suc k ≡ k + 1 = omega arith in
    e ∙ ap next_number before ∙ ap (nth_number x) same

-- k steps after j steps are j + k steps
pub steps_add : (x j k : ℕ) → nth_number (nth_number x j) k ≡ nth_number x (j + k)
steps_add x j zero =
    let same : j ≡ j + 0 = omega arith in
    ap (nth_number x) same
steps_add x j (suc k) =
    let same : suc (j + k) ≡ j + suc k = omega arith in
    ap next_number (steps_add x j k) ∙ ap (nth_number x) same

-- a draw after j steps
pub draw_later : (x y j k m : ℕ) → y ≡ nth_number x j → nth_draw y k m ≡ nth_draw x (j + k) m
draw_later x y j k m e =
    let same : j + (k + 1) ≡ j + k + 1 = omega arith in
    ap (λ z. drawn z m) (ap (λ z. nth_number z (k + 1)) e ∙ steps_add x j (k + 1) ∙ ap (nth_number x) same)

-- a draw is below its end
pub draw_below : (x k m : ℕ) → 0 < m → nth_draw x k m < m
draw_below x k m some = mod_below (nth_number x (k + 1) / 2 ^ 33) m some

-- one item more
pub one_more : {X : Type 0} (f : ℕ → X) (xs : List X) (k : ℕ) (x : X) → xs ≡ map f (range_with_len 0 k) → x ≡ f k → xs ++ x ∷ [] ≡ map f (range_with_len 0 (k + 1))
one_more f xs k x before is = ap (λ ys. ys ++ x ∷ []) before ∙ ap (λ y. map f (range_with_len 0 k) ++ y ∷ []) is ∙ sym (map-range_with_len_more f 0 k k (omega arith))

-- what holds at each place holds of each item
pub all_made : {X : Type 0} (P : X → Type 0) (f : ℕ → X) (a k : ℕ) → ((i : ℕ) → i < k → P (f (a + i))) → All P (map f (range_with_len a k))
all_made P f a k each i d lt =
    let in_k : i < k = subst (λ m. i < m) (length-map-range_with_len f a k) lt in
    subst P (sym (get_or-map-range_with_len f a k i (a + i) d in_k refl)) (each i in_k)

pub pairs_made : {X : Type 0} (R : X → X → Type 0) (f : ℕ → X) (k : ℕ) → ((i j : ℕ) → i < j → j < k → R (f i) (f j)) → AllPairs R (map f (range_with_len 0 k))
pairs_made R f k each i j d lt within =
    let in_k : j < k = subst (λ m. j < m) (length-map-range_with_len f 0 k) within in
    let at : (p : ℕ) → p < k → get_or (map f (range_with_len 0 k)) p d ≡ f p = λ p in_p. get_or-map-range_with_len f 0 k p p d in_p (omega arith) in
    subst (λ x. R x (get_or (map f (range_with_len 0 k)) j d)) (sym (at i (omega (arith, lt, in_k)))) (subst (λ y. R (f i) y) (sym (at j in_k)) (each i j lt in_k))
