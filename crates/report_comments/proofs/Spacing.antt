-- items that are put one after another, each after a space
use Rattle.std.proofs.Common.{◌≡◌, ℕ, ◌+◌, ◌<◌, ◌≤◌, List, [], ◌∷◌, ◌++◌, length, get_or, take, refl, sym, ap, subst, ◌∙◌, append_assoc, append-nil, flat_map, Result, OnOk, take_all}
use Rattle.net_core.proofs.Library.{AllByRecursion, flat_map-append, take_more}
use Rattle.text_kit.{specs.Terms.{Item, Opening, Closing, enclosed, word_of}, proofs.Lemmas.on_ok}
use Rattle.report_comments.specs.Comments.{AddsSpaced, HasOneLine, spaced_items}

pub spaced_both : (a b : List Item) → spaced_items (a ++ b) ≡ spaced_items a ++ spaced_items b
spaced_both [] b = refl
spaced_both (i ∷ a) b = ap (λ (t : List ℕ). 32 ∷ word_of i ++ t) (spaced_both a b) ∙ ap (λ (t : List ℕ). 32 ∷ t) (sym (append_assoc (word_of i) (spaced_items a) (spaced_items b)))

each_both : (is js : List Item) → AllByRecursion HasOneLine is → AllByRecursion HasOneLine js → AllByRecursion HasOneLine (is ++ js)
each_both [] js p q = q
each_both (i ∷ is) js p q = (p.0, each_both is js p.1 q)

-- nothing
pub spaced_none : (a : List ℕ) → AddsSpaced a [] a
spaced_none a = record { text = sym (append-nil a); each = tt }

-- some items, and others after them
pub spaced_then : {a b c : List ℕ} {is js : List Item} → AddsSpaced a is b → AddsSpaced b js c → AddsSpaced a (is ++ js) c
spaced_then {a} {b} {c} {is} {js} p q = record {
  text = q.text ∙ (ap (λ (t : List ℕ). t ++ spaced_items js) p.text ∙ (append_assoc a (spaced_items is) (spaced_items js) ∙ ap (λ (t : List ℕ). a ++ t) (sym (spaced_both is js))));
  each = each_both is js p.each q.each;
}

-- what the elements give, with one more
pub flat_more : {X Y : Type 0} (f : X → List Y) (xs : List X) (k : ℕ) (d : X) → k < length xs → flat_map f (take (k + 1) xs) ≡ flat_map f (take k xs) ++ f (get_or xs k d)
flat_more {X} {Y} f xs k d lt =
    ap (flat_map f) (take_more xs k d lt) ∙ (flat_map-append f (take k xs) (get_or xs k d ∷ []) ∙ ap (λ (ys : List Y). flat_map f (take k xs) ++ ys) (append-nil (f (get_or xs k d))))

-- the items of a further element, after those of the elements before it
pub spaced_more : {X : Type 0} (before : List Item) (f : X → List Item) (xs : List X) (k : ℕ) (d : X) {a b c : List ℕ} → k < length xs
    → AddsSpaced a (before ++ flat_map f (take k xs)) b → AddsSpaced b (f (get_or xs k d)) c → AddsSpaced a (before ++ flat_map f (take (k + 1) xs)) c
spaced_more before f xs k d {a} {b} {c} lt p q =
    let both = append_assoc before (flat_map f (take k xs)) (f (get_or xs k d)) ∙ ap (λ (is : List Item). before ++ is) (sym (flat_more f xs k d lt)) in
    subst (λ (is : List Item). AddsSpaced a is c) both (spaced_then p q)

-- the items of a further element that is the one at its place, after those of the elements before it
pub spaced_next : {X : Type 0} (before : List Item) (f : X → List Item) (xs : List X) (k : ℕ) (x : X) {a b c : List ℕ} → k < length xs → x ≡ get_or xs k x
    → AddsSpaced a (before ++ flat_map f (take k xs)) b → AddsSpaced b (f x) c → AddsSpaced a (before ++ flat_map f (take (k + 1) xs)) c
spaced_next before f xs k x {a} {b} {c} lt e p q = spaced_more before f xs k x lt p (subst (λ y. AddsSpaced b (f y) c) e q)

-- the items of all elements
pub spaced_all : {X : Type 0} (before : List Item) (f : X → List Item) (xs : List X) (k : ℕ) {a b : List ℕ} → length xs ≤ k → AddsSpaced a (before ++ flat_map f (take k xs)) b → AddsSpaced a (before ++ flat_map f xs) b
spaced_all {X} before f xs k {a} {b} le p = subst (λ (ys : List X). AddsSpaced a (before ++ flat_map f ys) b) (take_all k xs le) p

-- all elements, and the parenthesis that closes them
pub spaced_list : {X E Y : Type 0} (f : X → List Item) (xs : List X) (k : ℕ) (r : Result Y E) {a b : List ℕ} (c : List ℕ) → length xs ≤ k
    → AddsSpaced a (Opening ∷ flat_map f (take k xs)) b → OnOk r (AddsSpaced b (Closing ∷ []) c) → OnOk r (AddsSpaced a (enclosed (flat_map f xs)) c)
spaced_list f xs k r c le p closed = on_ok r (λ q. spaced_then (spaced_all (Opening ∷ []) f xs k le p) q) closed
