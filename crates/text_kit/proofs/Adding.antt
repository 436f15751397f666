-- Items that are added to a text one after another.
use Rattle.std.proofs.Common.{◌≡◌, ℕ, ◌+◌, ◌<◌, ◌≤◌, ◌^◌, ◌/◌, List, [], ◌∷◌, ◌++◌, length, get_or, take, sym, ap, subst, ◌∙◌, arith, append_assoc, append-nil, length-append, flat_map, Result, Ok, Err, OnOk, decimal, take_all}
use Rattle.net_core.{proofs.Library.{AllByRecursion, length-decimal-le, flat_map-append, take_more}, specs.declared.places.Places.Places, specs.Terms.{IsName, digits_after_point}}
use Rattle.text_kit.{specs.Edits.{enclosed, section}, specs.Items.{Item, Verbatim, Whole, Money, Opening, Closing}, specs.Written.{AddsItems, IsShortItem, IsWritable, last_digits, money_word, written}, proofs.Numerals.{last_few, money_plain, places_few, whole_below}, proofs.Written.written_both}

-- an amount's word is as short as a name
pub amount_short : (p : Places) (n : ℕ) → n < 2 ^ 64 → IsName (money_word p n)
amount_short p n lt =
    let k = digits_after_point p in
    let plain = money_plain p n (omega (arith, lt)) in
    let whole : n / 10 ^ k < 2 ^ 64 = omega (arith, lt, whole_below k n) in
    record {
      some = plain.0;
      short = omega (arith, length-decimal-le 20 (n / 10 ^ k) (omega arith) (omega (arith, whole)) (omega (arith, whole)), length-append (decimal (n / 10 ^ k)) (46 ∷ last_digits k n), last_few k n, places_few p);
      plain = plain.1;
    }

-- what is short can be read again
pub writable : (is : List Item) → AllByRecursion IsShortItem is → AllByRecursion IsWritable is
writable [] all = tt
writable (Verbatim w ∷ is) all = ((all.0.some, all.0.plain), writable is all.1)
writable (Whole n ∷ is) all = (all.0, writable is all.1)
writable (Money p n ∷ is) all = (all.0, writable is all.1)
writable (Opening ∷ is) all = (tt, writable is all.1)
writable (Closing ∷ is) all = (tt, writable is all.1)

short_both : (is js : List Item) → AllByRecursion IsShortItem is → AllByRecursion IsShortItem js → AllByRecursion IsShortItem (is ++ js)
short_both [] js p q = q
short_both (i ∷ is) js p q = (p.0, short_both is js p.1 q)

-- what is so unless memory runs out
pub on_ok : {X E : Type 0} (r : Result X E) {P Q : Type 0} → (P → Q) → OnOk r P → OnOk r Q
on_ok (Ok x) to p = to p
on_ok (Err e) to p = tt

-- nothing
pub adds_none : (a : List ℕ) → AddsItems a [] a
adds_none a = record { text = sym (append-nil a); each = tt }

-- some items, and others after them
pub adds_then : {a b c : List ℕ} {is js : List Item} → AddsItems a is b → AddsItems b js c → AddsItems a (is ++ js) c
adds_then {a} {b} {c} {is} {js} p q = record {
  text = q.text ∙ ap (λ (t : List ℕ). t ++ written js) p.text ∙ append_assoc a (written is) (written js) ∙ ap (λ (t : List ℕ). a ++ t) (sym (written_both is js));
  each = short_both is js p.each q.each;
}

-- items between parentheses
pub adds_enclosed : {a b c d : List ℕ} {is : List Item} → AddsItems a (Opening ∷ []) b → AddsItems b is c → AddsItems c (Closing ∷ []) d → AddsItems a (enclosed is) d
adds_enclosed p q r = adds_then p (adds_then q r)

-- the items of one element more
more_items : {X : Type 0} (f : X → List Item) (xs : List X) (k : ℕ) (d : X) → k < length xs → flat_map f (take (k + 1) xs) ≡ flat_map f (take k xs) ++ f (get_or xs k d)
more_items f xs k d lt =
    ap (flat_map f) (take_more xs k d lt) ∙ flat_map-append f (take k xs) (get_or xs k d ∷ []) ∙ ap (λ (is : List Item). flat_map f (take k xs) ++ is) (append-nil (f (get_or xs k d)))

-- the items of a further element, after those of the elements before it
pub adds_more : {X : Type 0} (before : List Item) (f : X → List Item) (xs : List X) (k : ℕ) (d : X) {a b c : List ℕ} → k < length xs
    → AddsItems a (before ++ flat_map f (take k xs)) b → AddsItems b (f (get_or xs k d)) c → AddsItems a (before ++ flat_map f (take (k + 1) xs)) c
adds_more before f xs k d {a} {b} {c} lt p q =
    let both = append_assoc before (flat_map f (take k xs)) (f (get_or xs k d)) ∙ ap (λ (is : List Item). before ++ is) (sym (more_items f xs k d lt)) in
    subst (λ (is : List Item). AddsItems a is c) both (adds_then p q)

-- the items of a further element, which is the one at its place, after those of the elements before it
pub adds_next : {X : Type 0} (before : List Item) (f : X → List Item) (xs : List X) (k : ℕ) (x : X) {a b c : List ℕ} → k < length xs → x ≡ get_or xs k x
    → AddsItems a (before ++ flat_map f (take k xs)) b → AddsItems b (f x) c → AddsItems a (before ++ flat_map f (take (k + 1) xs)) c
adds_next before f xs k x {a} {b} {c} lt e p q = adds_more before f xs k x lt p (subst (λ y. AddsItems b (f y) c) e q)

-- the items of all elements
pub adds_all : {X : Type 0} (before : List Item) (f : X → List Item) (xs : List X) (k : ℕ) {a b : List ℕ} → length xs ≤ k → AddsItems a (before ++ flat_map f (take k xs)) b → AddsItems a (before ++ flat_map f xs) b
adds_all {X} before f xs k {a} {b} le p = subst (λ (ys : List X). AddsItems a (before ++ flat_map f ys) b) (take_all k xs le) p

-- all elements of a list, and the parenthesis that closes it
pub adds_list : {X E Y : Type 0} (f : X → List Item) (xs : List X) (k : ℕ) (r : Result Y E) {a b : List ℕ} (c : List ℕ) → length xs ≤ k
    → AddsItems a (Opening ∷ flat_map f (take k xs)) b → OnOk r (AddsItems b (Closing ∷ []) c) → OnOk r (AddsItems a (enclosed (flat_map f xs)) c)
adds_list f xs k r c le p closed = on_ok r (λ q. adds_then (adds_all (Opening ∷ []) f xs k le p) q) closed

-- a section whose elements have all been added, and the parenthesis that closes it
pub adds_section : {X E Y : Type 0} (word : List ℕ) (f : X → List Item) (xs : List X) (k : ℕ) (r : Result Y E) {a b : List ℕ} (c : List ℕ) → length xs ≤ k
    → AddsItems a (Verbatim word ∷ Opening ∷ flat_map f (take k xs)) b → OnOk r (AddsItems b (Closing ∷ []) c) → OnOk r (AddsItems a (section word (flat_map f xs)) c)
adds_section word f xs k r c le p closed = on_ok r (λ q. adds_then (adds_all (Verbatim word ∷ Opening ∷ []) f xs k le p) q) closed
