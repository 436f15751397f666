-- A text that was written begins with its items.
use Rattle.std.proofs.Common.{◌≡◌, ℕ, ◌+◌, ◌-◌, ◌≤◌, ◌<◌, ◌==◌, ◌||◌, Bool, true, false, not, List, [], ◌∷◌, ◌++◌, length, get_or, take, drop, refl, sym, ap, subst, ◌∙◌, arith, length-drop, length-append, drop-cons, add-one, append_assoc, decimal, drop-drop}
use Rattle.net_core.{proofs.Library.{AllByRecursion, list_all, and_parts}, specs.Terms.{is_plain, is_space, is_word_byte}}
use Rattle.snd_tokens.{specs.Terms.{run_length, starts_token, token_of, token_bytes, tokens_from, Text, WordAt, OpenAt, CloseAt, EndAt, text_of, text_from}, proofs.Scan.{tokens_from-close, tokens_from-end, tokens_from-open, tokens_from-space, tokens_from-word}}
use Rattle.text_kit.{specs.Items.{Item, Verbatim, Whole, Money, Opening, Closing, SpellsItem, Begins}, specs.Written.{IsWritable, byte_after, money_word, word_of, written}, proofs.Numerals.{decimal_plain, decimal_writes, drop_first, money_again, money_plain, take_first, whole_again}}
use Rattle.snd_tokens.specs.declared.token.TokenKind.TheVariants as kinds

-- a byte at a place, and the bytes after it
pub record From (whole : List ℕ) (at b : ℕ) (bytes : List ℕ) : Type 0 where
  pub within : at < length whole
  pub first : get_or whole at 0 ≡ b
  pub rest : drop (at + 1) whole ≡ bytes

pub from_is : (whole : List ℕ) (at b : ℕ) (bytes : List ℕ) → drop at whole ≡ b ∷ bytes → From whole at b bytes
from_is whole at b bytes e =
    let within : at < length whole = omega (arith, ap length e, length-drop at whole) in
    let split : drop at whole ≡ get_or whole at 0 ∷ drop (at + 1) whole = rw add-one (drop-cons whole at 0 within) in
    let both : get_or whole at 0 ∷ drop (at + 1) whole ≡ b ∷ bytes = sym split ∙ e in
    let one : get_or whole at 0 ≡ b = cc in
    let two : drop (at + 1) whole ≡ bytes = cc in
    record { within = within; first = one; rest = two }

-- a space or a line feed is passed over
pub space_passed : (whole : List ℕ) (at b : ℕ) (bytes : List ℕ) → is_space b ≡ true → drop at whole ≡ b ∷ bytes → (text_from at whole ≡ text_from (at + 1) whole) × (drop (at + 1) whole ≡ bytes) × (at + 1 ≤ length whole)
unfolding text_from
space_passed whole at b bytes space e =
    let f = from_is whole at b bytes e in
    (ap (text_of whole) (tokens_from-space at whole f.within (ap is_space f.first ∙ space)), f.rest, omega (arith, f.within))

opened : (whole : List ℕ) (at : ℕ) (bytes : List ℕ) → drop at whole ≡ 40 ∷ bytes → (text_from at whole ≡ OpenAt at (text_from (at + 1) whole)) × (drop (at + 1) whole ≡ bytes) × (at + 1 ≤ length whole)
unfolding text_from
opened whole at bytes e =
    let f = from_is whole at 40 bytes e in
    (ap (text_of whole) (tokens_from-open at (at + 1) whole f.within f.first refl), f.rest, omega (arith, f.within))

closed : (whole : List ℕ) (at : ℕ) (bytes : List ℕ) → drop at whole ≡ 41 ∷ bytes → (text_from at whole ≡ CloseAt at (text_from (at + 1) whole)) × (drop (at + 1) whole ≡ bytes) × (at + 1 ≤ length whole)
unfolding text_from
closed whole at bytes e =
    let f = from_is whole at 41 bytes e in
    (ap (text_of whole) (tokens_from-close at (at + 1) whole f.within f.first refl), f.rest, omega (arith, f.within))

-- a run of word bytes before something else
run_before : (w more : List ℕ) → run_length more ≡ 0 → list_all is_word_byte w ≡ true → run_length (w ++ more) ≡ length w
run_before [] more stop all = stop
run_before (b ∷ w) more stop all =
    let p = and_parts (is_word_byte b) (list_all is_word_byte w) all in
    rw (p.0, run_before w more stop p.1) (omega arith)

not_parts : (a b : Bool) → not (a || b) ≡ true → (a ≡ false) × (b ≡ false)
not_parts true b e = absurd cc
not_parts false true e = absurd cc
not_parts false false e = (refl, refl)

not_is : (a : Bool) → not a ≡ true → a ≡ false
not_is true e = absurd cc
not_is false e = refl

-- a byte of a word that isn't `#` begins a word
starts : (b : ℕ) → is_word_byte b ≡ true → (b == 35) ≡ false → starts_token b ≡ true
starts b word other =
    let p = not_parts (is_space b || b == 40) (b == 41) word in
    let q = not_parts (is_space b) (b == 40) (ap not p.0) in
    rw (q.0, other) refl

worded : (whole : List ℕ) (at : ℕ) (w more : List ℕ) → run_length more ≡ 0 → 1 ≤ length w → is_plain w ≡ true → drop at whole ≡ w ++ more
    → (text_from at whole ≡ WordAt at w (text_from (at + length w) whole)) × (drop (at + length w) whole ≡ more) × (at + length w ≤ length whole)
unfolding text_from
worded whole at [] more stop some plain e = absurd (omega (arith, some))
worded whole at (b ∷ w) more stop some plain e =
    let f = from_is whole at b (w ++ more) e in
    let p = and_parts (not (b == 35)) (list_all is_word_byte (b ∷ w)) plain in
    let all = and_parts (is_word_byte b) (list_all is_word_byte w) p.1 in
    let run : run_length (drop (at + 1) whole) ≡ length w = ap run_length f.rest ∙ run_before w more stop all.1 in
    let end = at + length (b ∷ w) in
    let word = tokens_from-word at end whole f.within (ap starts_token f.first ∙ starts b all.0 (not_is (b == 35) p.0)) (ap is_word_byte f.first ∙ all.0) (omega (arith, run)) in
    let size : at + (end - at) - at ≡ length (b ∷ w) = omega arith in
    let bytes_are : token_bytes whole (token_of kinds.Word at (end - at)) ≡ b ∷ w =
    ap (λ k. take k (drop at whole)) size ∙ (ap (take (length (b ∷ w))) e ∙ take_first (b ∷ w) more) in
    let after_are : drop end whole ≡ more = sym (drop-drop (length (b ∷ w)) at whole) ∙ (ap (drop (length (b ∷ w))) e ∙ drop_first (b ∷ w) more) in
    let long = length-drop at whole in
    let both = length-append (b ∷ w) more in
    (ap (text_of whole) word ∙ ap (λ (v : List ℕ). WordAt at v (text_of whole (tokens_from end whole))) bytes_are, after_are, omega (arith, f.within, ap length e, long, both))

-- a word, and then further items
word_first : (i : Item) (is : List Item) (whole : List ℕ) (at : ℕ) (w more : List ℕ) → run_length more ≡ 0 → (1 ≤ length w) × (is_plain w ≡ true) → SpellsItem w i → drop at whole ≡ w ++ more
    → (drop (at + length w) whole ≡ more → at + length w ≤ length whole → Begins is (text_from (at + length w) whole) (EndAt (length whole)))
    → Begins (i ∷ is) (text_from at whole) (EndAt (length whole))
word_first i is whole at w more stop word spells e later =
    let o = worded whole at w more stop word.0 word.1 e in
    subst (λ (t : Text). Begins (i ∷ is) t (EndAt (length whole))) (sym o.0) (spells, later o.1 o.2)

-- the word of an item, which ends there, and then further items
pub item_begins : (i : Item) (is : List Item) (whole : List ℕ) (at : ℕ) (more : List ℕ) → run_length more ≡ 0 → IsWritable i → drop at whole ≡ word_of i ++ more
    → ((next : ℕ) → next ≤ length whole → drop next whole ≡ more → Begins is (text_from next whole) (EndAt (length whole)))
    → Begins (i ∷ is) (text_from at whole) (EndAt (length whole))
item_begins Opening is whole at more stop form e later =
    let o = opened whole at more e in
    subst (λ (t : Text). Begins (Opening ∷ is) t (EndAt (length whole))) (sym o.0) (refl, later (at + 1) o.2 o.1)
item_begins Closing is whole at more stop form e later =
    let o = closed whole at more e in
    subst (λ (t : Text). Begins (Closing ∷ is) t (EndAt (length whole))) (sym o.0) (refl, later (at + 1) o.2 o.1)
item_begins (Verbatim w) is whole at more stop form e later = word_first (Verbatim w) is whole at w more stop form refl e (λ d le. later (at + length w) le d)
item_begins (Whole n) is whole at more stop form e later =
    word_first (Whole n) is whole at (decimal n) more stop (decimal_plain n form) (whole_again n (decimal n) form (decimal_writes n form)) e (λ d le. later (at + length (decimal n)) le d)
item_begins (Money p n) is whole at more stop form e later =
    word_first (Money p n) is whole at (money_word p n) more stop (money_plain p n form) (money_again p n form) e (λ d le. later (at + length (money_word p n)) le d)

-- what is after a word ends it, and is passed over
after_word : (i : Item) (bytes : List ℕ) → (run_length (byte_after i ∷ bytes) ≡ 0) × (is_space (byte_after i) ≡ true)
after_word (Verbatim w) bytes = (refl, refl)
after_word (Whole n) bytes = (refl, refl)
after_word (Money p n) bytes = (refl, refl)
after_word Opening bytes = (refl, refl)
after_word Closing bytes = (refl, refl)

pub text_ends : (whole : List ℕ) (at : ℕ) → at ≤ length whole → drop at whole ≡ [] → text_from at whole ≡ EndAt (length whole)
unfolding text_from
text_ends whole at within e =
    let end : at ≡ length whole = omega (arith, within, ap length e, length-drop at whole) in
    ap (λ k. text_of whole (tokens_from k whole)) end ∙ ap (text_of whole) (tokens_from-end whole)

-- A text that was written is made of its items.
pub written_begins : (is : List Item) (whole : List ℕ) (at : ℕ) → AllByRecursion IsWritable is → at ≤ length whole → drop at whole ≡ written is → Begins is (text_from at whole) (EndAt (length whole))
written_begins [] whole at all within e = text_ends whole at within e
written_begins (i ∷ is) whole at all within e =
    let w = after_word i (written is) in
    item_begins i is whole at (byte_after i ∷ written is) w.0 all.0 e (λ next le d.
    let p = space_passed whole next (byte_after i) (written is) w.1 d in
    subst (λ (t : Text). Begins is t (EndAt (length whole))) (sym p.0) (written_begins is whole (next + 1) all.1 p.2 p.1))

-- items after items, and the items of a list
pub written_both : (a b : List Item) → written (a ++ b) ≡ written a ++ written b
written_both [] b = refl
written_both (i ∷ a) b = ap (λ (t : List ℕ). word_of i ++ byte_after i ∷ t) (written_both a b) ∙ sym (append_assoc (word_of i) (byte_after i ∷ written a) (written b))
