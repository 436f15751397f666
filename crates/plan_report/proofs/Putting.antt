-- Numbered elements and pairs of elements, whose items are added to a text one after another.
use Rattle.std.proofs.Common.{◌≡◌, ℕ, zero, suc, ◌+◌, ◌<◌, ◌≤◌, List, [], ◌∷◌, length, get_or, take, refl, sym, ap, ◌∙◌, arith, flat_map, zip, Result, OnOk}
use Rattle.net_core.proofs.Library.{get_or-zip, length-zip}
use Rattle.text_kit.{specs.Terms.{enclosed, Item, Opening, Closing, AddsItems}, proofs.Lemmas.{adds_list, adds_next}}
use Rattle.plan_report.specs.Items.{numbered_from}

-- ---- elements with their numbers

numbered_length : {X : Type 0} (n : ℕ) (xs : List X) → length (numbered_from n xs) ≡ length xs
numbered_length n [] = refl
numbered_length n (x ∷ xs) = ap (λ k. suc k) (numbered_length (n + 1) xs)

numbered_get : {X : Type 0} (n : ℕ) (xs : List X) (k at : ℕ) (d : ℕ × X) → k < length xs → at ≡ n + k → get_or (numbered_from n xs) k d ≡ (at, get_or xs k d.1)
numbered_get n [] k at d lt e = absurd (omega (arith, lt))
numbered_get n (x ∷ xs) zero at d lt e = let same : n ≡ at = omega (arith, e) in ap (λ m. (m, x)) same
numbered_get n (x ∷ xs) (suc k) at d lt e = numbered_get (n + 1) xs k at d (omega (arith, lt)) (omega (arith, e))

pub adds_numbered : {X : Type 0} (f : ℕ × X → List Item) (n : ℕ) (xs : List X) (k at : ℕ) (x : X) {a b c : List ℕ} → k < length xs → at ≡ n + k → x ≡ get_or xs k x
    → AddsItems a (Opening ∷ flat_map f (take k (numbered_from n xs))) b → AddsItems b (f (at, x)) c → AddsItems a (Opening ∷ flat_map f (take (k + 1) (numbered_from n xs))) c
adds_numbered f n xs k at x lt e there p q =
    adds_next (Opening ∷ []) f (numbered_from n xs) k (at, x) (omega (arith, lt, numbered_length n xs)) (ap (λ y. (at, y)) there ∙ sym (numbered_get n xs k at (at, x) lt e)) p q

pub adds_numbered_list : {X E Y : Type 0} (f : ℕ × X → List Item) (n : ℕ) (xs : List X) (k : ℕ) (r : Result Y E) {a b : List ℕ} (c : List ℕ) → length xs ≤ k
    → AddsItems a (Opening ∷ flat_map f (take k (numbered_from n xs))) b → OnOk r (AddsItems b (Closing ∷ []) c) → OnOk r (AddsItems a (enclosed (flat_map f (numbered_from n xs))) c)
adds_numbered_list f n xs k r {a} {b} c le p closed = adds_list f (numbered_from n xs) k r c (omega (arith, le, numbered_length n xs)) p closed

-- ---- pairs of two lists

pub adds_pair : {X Y : Type 0} (f : X × Y → List Item) (xs : List X) (ys : List Y) (k : ℕ) (x : X) (y : Y) {a b c : List ℕ} → k < length xs → length ys ≡ length xs → x ≡ get_or xs k x → y ≡ get_or ys k y
    → AddsItems a (Opening ∷ flat_map f (take k (zip xs ys))) b → AddsItems b (f (x, y)) c → AddsItems a (Opening ∷ flat_map f (take (k + 1) (zip xs ys))) c
adds_pair f xs ys k x y lt same ex ey p q =
    let there : (x, y) ≡ get_or (zip xs ys) k (x, y) = ap (λ z. (z, y)) ex ∙ ap (λ z. (get_or xs k x, z)) ey ∙ sym (get_or-zip xs ys k (x, y) lt (omega (arith, lt, same))) in
    adds_next (Opening ∷ []) f (zip xs ys) k (x, y) (omega (arith, lt, same, length-zip xs ys)) there p q
