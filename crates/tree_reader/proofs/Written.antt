-- Comment lines that were put below a text are comments of their items.
use Rattle.std.{proofs.Common.{◌≡◌, ℕ, ◌+◌, ◌≤◌, ◌==◌, List, [], ◌∷◌, ◌++◌, length, take, drop, refl, sym, ap, subst, ◌∙◌, arith, length-drop, length-append, append_assoc, flat_map, All}, proofs.lemmas.List.{drop-drop, drop-take, length-take}, proofs.Math.Seq.drop-append_seam}
use Rattle.net_core.{proofs.Library.{AllByRecursion, All-head, All-tail}, specs.Terms.is_space}
use Rattle.snd_tokens.specs.Terms.{line_length, run_length, Text, EndAt, text_from}
use Rattle.text_kit.{specs.Terms.{Item, Begins, IsMadeOf, IsWritable, word_of}, proofs.Lemmas.{from_is, item_begins, space_passed, text_ends, drop_first, take_first}}
use Rattle.report_comments.{proofs.Passing.line_long, specs.Comments.{AddsLines, IsOneLine, comment_line, spaced_items}}
use Rattle.tree_reader.{specs.CommentTexts.{AreCommentsOf, Comments, CommentAt, comments_from}, proofs.Scanning.{comments_end, comments_hash, comments_space}}

-- items after a space end the word before them
spaced_stop : (is : List Item) → run_length (spaced_items is) ≡ 0
spaced_stop [] = refl
spaced_stop (i ∷ is) = refl

-- words after one space each are their items
spaced_begins : (is : List Item) (whole : List ℕ) (at : ℕ) → AllByRecursion IsWritable is → at ≤ length whole → drop at whole ≡ spaced_items is → Begins is (text_from at whole) (EndAt (length whole))
spaced_begins [] whole at all within e = text_ends whole at within e
spaced_begins (i ∷ is) whole at all within e =
    let p = space_passed whole at 32 (word_of i ++ spaced_items is) refl e in
    subst (λ (t : Text). Begins (i ∷ is) t (EndAt (length whole))) (sym p.0) (item_begins i is whole (at + 1) (spaced_items is) (spaced_stop is) all.0 p.1 (λ next le d. spaced_begins is whole next all.1 le d))

-- ---- lines

-- a line, and what comes after it
record LineThere (whole : List ℕ) (at : ℕ) (items : List Item) (bytes : List ℕ) : Type 0 where
  pub text : Text
  pub next : ℕ
  pub comment : comments_from at whole ≡ CommentAt text (comments_from next whole)
  pub made : IsMadeOf items text
  pub rest : drop next whole ≡ bytes
  pub within : next ≤ length whole

line_there : (whole : List ℕ) (at : ℕ) (items : List Item) (bytes : List ℕ) → IsOneLine (spaced_items items) → AllByRecursion IsWritable items → drop at whole ≡ comment_line items ++ bytes → LineThere whole at items bytes
line_there whole at items bytes one all e =
    let words = spaced_items items in
    let begun : drop at whole ≡ 35 ∷ words ++ 10 ∷ bytes = e ∙ ap (λ (t : List ℕ). 35 ∷ t) (append_assoc words (10 ∷ []) bytes) in
    let f = from_is whole at 35 (words ++ 10 ∷ bytes) begun in
    let n : line_length (drop (at + 1) whole) ≡ length words = ap line_length f.rest ∙ line_long words bytes one in
    let end : ℕ = at + 1 + length words in
    let there : drop end whole ≡ 10 ∷ bytes = sym (drop-drop (length words) (at + 1) whole) ∙ (ap (drop (length words)) f.rest ∙ drop_first words (10 ∷ bytes)) in
    let g = from_is whole end 10 bytes there in
    let line : List ℕ = take end whole in
    let long : length line ≡ end = length-take end whole ∙ omega (arith, g.within) in
    let words_are : drop (at + 1) line ≡ words = drop-take (at + 1) (length words) whole ∙ (ap (take (length words)) f.rest ∙ take_first words (10 ∷ bytes)) in
    record {
      text = text_from (at + 1) line;
      next = end + 1;
      comment = comments_hash at whole f.within (ap (λ b. b == 35) f.first)
          ∙ (ap (λ k. CommentAt (text_from (at + 1) (take (at + 1 + k) whole)) (comments_from (at + 1 + k) whole)) n
          ∙ ap (λ (c : Comments). CommentAt (text_from (at + 1) line) c) (comments_space end whole g.within (ap is_space g.first)));
      made = (length line, spaced_begins items line (at + 1) all (omega (arith, long)) words_are);
      rest = g.rest;
      within = omega (arith, g.within);
    }

lines_there : (lines : List (List Item)) (whole : List ℕ) (at : ℕ) → All (λ items. IsOneLine (spaced_items items)) lines → All (AllByRecursion IsWritable) lines → at ≤ length whole → drop at whole ≡ flat_map comment_line lines → AreCommentsOf lines (comments_from at whole)
lines_there [] whole at one all within e =
    let end : at ≡ length whole = omega (arith, within, ap length e, length-drop at whole) in
    subst (λ (c : Comments). AreCommentsOf [] c) (sym (ap (λ k. comments_from k whole) end ∙ comments_end whole)) tt
lines_there (items ∷ lines) whole at one all within e =
    let l = line_there whole at items (flat_map comment_line lines) (All-head (λ is. IsOneLine (spaced_items is)) items lines one) (All-head (AllByRecursion IsWritable) items lines all) e in
    let later = lines_there lines whole l.next (All-tail (λ is. IsOneLine (spaced_items is)) items lines one) (All-tail (AllByRecursion IsWritable) items lines all) l.within l.rest in
    subst (λ (c : Comments). AreCommentsOf (items ∷ lines) c) (sym l.comment) (l.made, later)

-- what was put below a text
pub lines_read : (text whole : List ℕ) (lines : List (List Item)) → AddsLines text lines whole → All (AllByRecursion IsWritable) lines → AreCommentsOf lines (comments_from (length text) whole)
lines_read text whole lines adds all =
    let long : length text ≤ length whole = omega (arith, ap length adds.text, length-append text (flat_map comment_line lines)) in
    lines_there lines whole (length text) adds.each all long (ap (drop (length text)) adds.text ∙ drop-append_seam text (flat_map comment_line lines))
