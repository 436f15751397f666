-- words that end no line
use Rattle.std.{proofs.Common.{◌≡◌, ℕ, ◌+◌, ◌%◌, ◌^◌, ◌<◌, ◌==◌, Bool, true, false, not, List, [], ◌∷◌, ◌++◌, decimal, refl, sym, ap, ◌∙◌, arith, append_assoc, append-nil, eqb-true, ne_eqb}, proofs.lemmas.Fmt.decimal_by_steps_wide, proofs.lemmas.List.Folds.list_all-append}
use Rattle.net_core.{proofs.Library.{AllByRecursion, and_from, and_parts, list_all}, specs.Terms.{IsName, is_word_byte}}
use Rattle.text_kit.specs.Terms.{Item, Whole, word_of}
use Rattle.report_comments.specs.Comments.{AddsSpaced, HasOneLine, IsOneLine, spaced_items}

abbrev goes_on : ℕ → Bool
goes_on b = not (b == 10)

digit_on : (d : ℕ) → goes_on (48 + d) ≡ true
digit_on d = ap not (ne_eqb (48 + d) 10 (λ e. omega (arith, e)))

both_one_line : (a b : List ℕ) → IsOneLine a → IsOneLine b → IsOneLine (a ++ b)
both_one_line a b p q = list_all-append goes_on a b ∙ rw (p, q) refl

-- a whole number ends no line
pub decimal_one_line : (n : ℕ) → n < 2 ^ 128 → IsOneLine (decimal n)
decimal_one_line n lt = decimal_by_steps_wide (λ m ds. IsOneLine ds) (λ m low. and_from (goes_on (48 + m)) true (digit_on m) refl) (λ m ds large w. both_one_line ds ((48 + m % 10) ∷ []) w (and_from (goes_on (48 + m % 10)) true (digit_on (m % 10)) refl)) n (omega (arith, lt))

word_byte_on : (b : ℕ) → is_word_byte b ≡ true → goes_on b ≡ true
word_byte_on b word = elim (b == 10) as (λ v. (b == 10) ≡ v → not v ≡ true) [
  | true ↦ λ e. absurd (let same = eqb-true b 10 e in let none : is_word_byte b ≡ false = ap is_word_byte same in cc (word, none))
  | false ↦ λ e. refl
] refl

words_on : (w : List ℕ) → list_all is_word_byte w ≡ true → IsOneLine w
words_on [] all = refl
words_on (b ∷ w) all =
    let p = and_parts (is_word_byte b) (list_all is_word_byte w) all in
    and_from (goes_on b) (list_all goes_on w) (word_byte_on b p.0) (words_on w p.1)

-- nor does a name
pub name_one_line : (w : List ℕ) → IsName w → IsOneLine w
name_one_line [] name = refl
name_one_line (b ∷ w) name = words_on (b ∷ w) (and_parts (not (b == 35)) (list_all is_word_byte (b ∷ w)) name.plain).1

-- nor do words that don't, each after a space
pub spaced_one_line : (is : List Item) → AllByRecursion HasOneLine is → IsOneLine (spaced_items is)
spaced_one_line [] all = refl
spaced_one_line (i ∷ is) all = both_one_line (word_of i) (spaced_items is) all.0 (spaced_one_line is all.1)

-- a whole number after a space
pub spaced_whole : (a b c : List ℕ) (n : ℕ) → n < 2 ^ 128 → b ≡ a ++ 32 ∷ [] → c ≡ b ++ decimal n → AddsSpaced a (Whole n ∷ []) c
spaced_whole a b c n lt p q = record {
  text = q ∙ (ap (λ (t : List ℕ). t ++ decimal n) p ∙ (append_assoc a (32 ∷ []) (decimal n) ∙ ap (λ (t : List ℕ). a ++ 32 ∷ t) (sym (append-nil (decimal n)))));
  each = (decimal_one_line n lt, tt);
}
