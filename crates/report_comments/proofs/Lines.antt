-- comment lines that are put one after another
use Rattle.std.{proofs.Common.{◌≡◌, ℕ, ◌+◌, ◌<◌, ◌≤◌, List, [], ◌∷◌, ◌++◌, length, get_or, take, map, sym, ap, subst, ◌∙◌, append_assoc, append-nil, flat_map}, proofs.lemmas.List.{map-append, take_all}}
use Rattle.net_core.proofs.Library.{All-append, All-cons, All-nil, flat_map-append, take_more}
use Rattle.text_kit.specs.Terms.{Item}
use Rattle.report_comments.{specs.Comments.{AddsLines, AddsSpaced, IsOneLine, comment_line, spaced_items}, proofs.OneLine.spaced_one_line}

abbrev is_line : List Item → Type 0
is_line items = IsOneLine (spaced_items items)

-- no line
pub no_lines : (a : List ℕ) → AddsLines a [] a
no_lines a = record { text = sym (append-nil a); each = All-nil is_line }

-- a `#`, items that end no line, and the end of the line
pub line_put : (a b c d : List ℕ) (items : List Item) → b ≡ a ++ 35 ∷ [] → AddsSpaced b items c → d ≡ c ++ 10 ∷ [] → AddsLines a (items ∷ []) d
line_put a b c d items begun put ended =
    let words = spaced_items items in
    let start : c ≡ a ++ 35 ∷ words = put.text ∙ (ap (λ (t : List ℕ). t ++ words) begun ∙ append_assoc a (35 ∷ []) words) in
    let whole : d ≡ a ++ comment_line items = ended ∙ (ap (λ (t : List ℕ). t ++ 10 ∷ []) start ∙ append_assoc a (35 ∷ words) (10 ∷ [])) in
    record {
      text = whole ∙ ap (λ (t : List ℕ). a ++ t) (sym (append-nil (comment_line items)));
      each = All-cons is_line items [] (spaced_one_line items put.each) (All-nil is_line);
    }

-- some lines, and others after them
pub lines_then : {a b c : List ℕ} {is js : List (List Item)} → AddsLines a is b → AddsLines b js c → AddsLines a (is ++ js) c
lines_then {a} {b} {c} {is} {js} p q = record {
  text = q.text ∙ (ap (λ (t : List ℕ). t ++ flat_map comment_line js) p.text ∙ (append_assoc a (flat_map comment_line is) (flat_map comment_line js)
      ∙ ap (λ (t : List ℕ). a ++ t) (sym (flat_map-append comment_line is js))));
  each = All-append is_line is js p.each q.each;
}

-- the line of a further element, after those of the elements before it
pub line_next : {X : Type 0} (f : X → List Item) (xs : List X) (k : ℕ) (x : X) {a b c : List ℕ} → k < length xs → x ≡ get_or xs k x
    → AddsLines a (map f (take k xs)) b → AddsLines b (f x ∷ []) c → AddsLines a (map f (take (k + 1) xs)) c
line_next {X} f xs k x {a} {b} {c} lt e p q =
    let more : take (k + 1) xs ≡ take k xs ++ x ∷ [] = take_more xs k x lt ∙ ap (λ (y : X). take k xs ++ y ∷ []) (sym e) in
    subst (λ (ls : List (List Item)). AddsLines a ls c) (sym (ap (map f) more ∙ map-append f (take k xs) (x ∷ []))) (lines_then p q)

-- the lines of all elements
pub lines_all : {X : Type 0} (f : X → List Item) (xs : List X) (k : ℕ) {a b : List ℕ} → length xs ≤ k → AddsLines a (map f (take k xs)) b → AddsLines a (map f xs) b
lines_all {X} f xs k {a} {b} le p = subst (λ (ys : List X). AddsLines a (map f ys) b) (take_all k xs le) p
