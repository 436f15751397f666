-- comment lines of further elements
use Rattle.std.proofs.Common.{ℕ, ◌+◌, ◌<◌, ◌≤◌, List, flat_map, get_or, length, sym, subst, take, take_all}
use Rattle.text_kit.specs.Terms.{Item}
use Rattle.report_comments.{specs.Comments.AddsLines, proofs.Lines.lines_then, proofs.Spacing.flat_more}

-- the lines of a further element, after those of the elements before it
pub lines_more : {X : Type 0} (f : X → List (List Item)) (xs : List X) (k : ℕ) (d : X) {a b c : List ℕ} → k < length xs
    → AddsLines a (flat_map f (take k xs)) b → AddsLines b (f (get_or xs k d)) c → AddsLines a (flat_map f (take (k + 1) xs)) c
lines_more f xs k d {a} {b} {c} lt p q = subst (λ (ls : List (List Item)). AddsLines a ls c) (sym (flat_more f xs k d lt)) (lines_then p q)

-- the lines of all elements
pub lines_whole : {X : Type 0} (f : X → List (List Item)) (xs : List X) (k : ℕ) {a b : List ℕ} → length xs ≤ k → AddsLines a (flat_map f (take k xs)) b → AddsLines a (flat_map f xs) b
lines_whole {X} f xs k {a} {b} le p = subst (λ (ys : List X). AddsLines a (flat_map f ys) b) (take_all k xs le) p

-- ---- one fate
