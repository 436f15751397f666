-- comments after a text whose last byte ends a line
use Rattle.std.proofs.Common.{◌≡◌, ℕ, List, [], ◌∷◌, ◌++◌, refl, sym, ap, subst, ◌∙◌, append_assoc, flat_map, map, All}
use Rattle.net_core.proofs.Library.{All-cons, All-head, All-nil, All-tail}
use Rattle.text_kit.specs.Terms.{IsFileOf, Item, Opening, Closing, Verbatim, section, written, byte_after, word_of}
use Rattle.report_comments.{specs.Comments.{AddsLines, IsOneLine, comment_line, commented, spaced_items}, proofs.Passing.comments_are_no_items}

-- ---- texts whose last byte ends a line

pub record EndsLine (text : List ℕ) : Type 0 where
  pub front : List ℕ
  pub is : text ≡ front ++ 10 ∷ []

-- with bytes before it
pub ends_after : (before text : List ℕ) → EndsLine text → EndsLine (before ++ text)
ends_after before text ends = record { front = before ++ ends.front; is = ap (λ (t : List ℕ). before ++ t) ends.is ∙ sym (append_assoc before ends.front (10 ∷ [])) }

written_before : (i : Item) (is : List Item) → EndsLine (written is) → EndsLine (written (i ∷ is))
written_before i is ends = ends_after (word_of i) (byte_after i ∷ written is) (ends_after (byte_after i ∷ []) (written is) ends)

-- items of which the last closes a parenthesis
written_ends : (is : List Item) → EndsLine (written (is ++ Closing ∷ []))
written_ends [] = record { front = 41 ∷ []; is = refl }
written_ends (i ∷ is) = written_before i (is ++ Closing ∷ []) (written_ends is)

pub written_after : (is js : List Item) → EndsLine (written js) → EndsLine (written (is ++ js))
written_after [] js ends = ends
written_after (i ∷ is) js ends = written_before i (is ++ js) (written_after is js ends)

pub section_ends : (word : List ℕ) (is : List Item) → EndsLine (written (section word is))
section_ends word is = written_before (Verbatim word) (Opening ∷ is ++ Closing ∷ []) (written_before Opening (is ++ Closing ∷ []) (written_ends is))

-- ---- comments

abbrev words_of : List (List Item) → List (List ℕ)
words_of lines = map spaced_items lines

lines_are : (lines : List (List Item)) → flat_map comment_line lines ≡ flat_map commented (words_of lines)
lines_are [] = refl
lines_are (l ∷ lines) = ap (λ (t : List ℕ). comment_line l ++ t) (lines_are lines)

lines_one : (lines : List (List Item)) → All (λ items. IsOneLine (spaced_items items)) lines → All IsOneLine (words_of lines)
lines_one [] all = All-nil IsOneLine
lines_one (l ∷ lines) all =
    let is : List Item → Type 0 = λ items. IsOneLine (spaced_items items) in
    All-cons IsOneLine (spaced_items l) (words_of lines) (All-head is l lines all) (lines_one lines (All-tail is l lines all))

-- a file stays one of its items when comment lines are put after it
pub comments_taken : (header : List ℕ) (items : List Item) (old new : List ℕ) (lines : List (List Item)) → EndsLine old → AddsLines old lines new
    → IsFileOf header items old → IsFileOf header items new
comments_taken header items old new lines ends adds file =
    let words = flat_map commented (words_of lines) in
    let more = comments_are_no_items header items ends.front (words_of lines) (lines_one lines adds.each) (subst (λ (t : List ℕ). IsFileOf header items t) ends.is file) in
    let both : (ends.front ++ 10 ∷ []) ++ words ≡ new = ap (λ (t : List ℕ). t ++ words) (sym ends.is) ∙ (ap (λ (t : List ℕ). old ++ t) (sym (lines_are lines)) ∙ sym adds.text) in
    subst (λ (t : List ℕ). IsFileOf header items t) both more
