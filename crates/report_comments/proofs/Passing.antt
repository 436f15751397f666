-- comments after the last line of a text begin no token
use Rattle.std.{proofs.Common.{◌≡◌, ℕ, zero, suc, ◌+◌, ◌-◌, ◌<◌, ◌≤◌, ◌==◌, min, Bool, true, false, cond, not, List, [], ◌∷◌, ◌++◌, length, drop, take, refl, sym, ap, subst, ◌∙◌, arith, append_assoc, length-append, length-drop, flat_map, All, ⊎_elim}, proofs.Math.Seq.{drop-append_seam, drop-length}, proofs.lemmas.List.{drop-append-le, take-append-le, length-take}}
use Rattle.net_core.{proofs.Library.{All-head, All-tail, and_parts, cases_lt, list_all, prefix_len, prefix_len-le-length}, specs.Terms.is_word_byte}
use Rattle.snd_tokens.{specs.declared.token.Token.Token, specs.declared.token.TokenKind.TokenKind, specs.Terms.{begun, extent, first_line, line_length, run_length, second_line, starts_token, text_from, text_of, token_bytes, token_of, tokens_from, tokens_past, Text, EndAt, trimmed}, specs.Lexemes.put_before}
use Rattle.text_kit.specs.Terms.{Begins, Item, SpellsItem}
use Rattle.report_comments.{specs.Comments.{IsOneLine, commented}, specs.Laws.CommentsAreNoItems}
use Rattle.snd_tokens.specs.declared.token.TokenKind.TheVariants as kinds

-- ---- runs that end before the end of a line

module _ (p : ℕ → Bool) (stops : p 10 ≡ false) where
  run_same : (xs more : List ℕ) → prefix_len p (xs ++ 10 ∷ more) ≡ prefix_len p (xs ++ 10 ∷ [])
  run_same [] more = ap (λ (b : Bool). cond b (1 + prefix_len p more) 0) stops ∙ sym (ap (λ (b : Bool). cond b 1 0) stops)
  run_same (b ∷ xs) more = ap (λ (n : ℕ). cond (p b) (1 + n) 0) (run_same xs more)

  run_within : (xs more : List ℕ) → prefix_len p (xs ++ 10 ∷ more) ≤ length xs
  run_within [] more = let none : prefix_len p (10 ∷ more) ≡ 0 = ap (λ (b : Bool). cond b (1 + prefix_len p more) 0) stops in omega (arith, none)
  run_within (b ∷ xs) more =
      let rest = run_within xs more in
      elim (p b) as (λ v. cond v (1 + prefix_len p (xs ++ 10 ∷ more)) 0 ≤ length (b ∷ xs)) [
        | true ↦ omega (arith, rest)
        | false ↦ omega arith
      ]

extent_same : (b : ℕ) (xs more : List ℕ) → extent b (xs ++ 10 ∷ more) ≡ extent b (xs ++ 10 ∷ [])
extent_same b xs more =
    ap (λ (n : ℕ). cond (b == 35) n (cond (is_word_byte b) (run_length (xs ++ 10 ∷ more)) 0)) (run_same (λ x. not (x == 10)) refl xs more)
    ∙ ap (λ (n : ℕ). cond (b == 35) (line_length (xs ++ 10 ∷ [])) (cond (is_word_byte b) n 0)) (run_same is_word_byte refl xs more)

extent_within : (b : ℕ) (xs more : List ℕ) → extent b (xs ++ 10 ∷ more) ≤ length xs
extent_within b xs more =
    elim (b == 35) as (λ v. cond v (line_length (xs ++ 10 ∷ more)) (cond (is_word_byte b) (run_length (xs ++ 10 ∷ more)) 0) ≤ length xs) [
      | true ↦ run_within (λ x. not (x == 10)) refl xs more
      | false ↦ elim (is_word_byte b) as (λ v. cond v (run_length (xs ++ 10 ∷ more)) 0 ≤ length xs) [
        | true ↦ run_within is_word_byte refl xs more
        | false ↦ omega arith
      ]
    ]

begun_same : (at b : ℕ) (xs more : List ℕ) → begun at b (xs ++ 10 ∷ more) ≡ begun at b (xs ++ 10 ∷ [])
begun_same at b xs more = ap (λ (n : ℕ). cond (not (starts_token b)) [] (cond (b == 40) (token_of kinds.Open at 1 ∷ []) (cond (b == 41) (token_of kinds.Close at 1 ∷ []) (token_of kinds.Word at (1 + n) ∷ [])))) (run_same is_word_byte refl xs more)

-- ---- bytes without tokens

abbrev BeginNone : List ℕ → Type 0
BeginNone bytes = (at : ℕ) → tokens_past 0 at bytes ≡ []

tokens_same : (xs more : List ℕ) (skip at : ℕ) → BeginNone more → skip ≤ length xs → tokens_past skip at (xs ++ 10 ∷ more) ≡ tokens_past skip at (xs ++ 10 ∷ [])
tokens_same [] more zero at none le = none (at + 1)
tokens_same [] more (suc skip) at none le = absurd (omega (arith, le))
tokens_same (b ∷ xs) more zero at none le =
    let n = extent b (xs ++ 10 ∷ []) in
    ap (λ (ts : List Token). ts ++ tokens_past (extent b (xs ++ 10 ∷ more)) (at + 1) (xs ++ 10 ∷ more)) (begun_same at b xs more)
    ∙ (ap (λ (k : ℕ). begun at b (xs ++ 10 ∷ []) ++ tokens_past k (at + 1) (xs ++ 10 ∷ more)) (extent_same b xs more)
    ∙ ap (λ (ts : List Token). begun at b (xs ++ 10 ∷ []) ++ ts) (tokens_same xs more n (at + 1) none (extent_within b xs [])))
tokens_same (b ∷ xs) more (suc skip) at none le = tokens_same xs more skip (at + 1) none (omega (arith, le))

pub line_long : (text more : List ℕ) → IsOneLine text → line_length (text ++ 10 ∷ more) ≡ length text
line_long [] more one = refl
line_long (b ∷ text) more one =
    let parts = and_parts (not (b == 10)) (list_all (λ x. not (x == 10)) text) one in
    let rest = line_long text more parts.1 in
    ap (λ (v : Bool). cond v (1 + line_length (text ++ 10 ∷ more)) 0) parts.0 ∙ omega (arith, rest)

skipped_none : (text more : List ℕ) → BeginNone more → (at : ℕ) → tokens_past (length text) at (text ++ more) ≡ []
skipped_none [] more none at = none at
skipped_none (b ∷ text) more none at = skipped_none text more none (at + 1)

comment_none : (text more : List ℕ) → IsOneLine text → BeginNone more → BeginNone (commented text ++ more)
comment_none text more one none at =
    ap (λ (rest : List ℕ). tokens_past 0 at (35 ∷ rest)) (append_assoc text (10 ∷ []) more)
    ∙ (ap (λ (k : ℕ). tokens_past k (at + 1) (text ++ 10 ∷ more)) (line_long text more one)
    ∙ skipped_none text (10 ∷ more) (λ here. none (here + 1)) (at + 1))

comments_none : (comments : List (List ℕ)) → All IsOneLine comments → BeginNone (flat_map commented comments)
comments_none [] all at = refl
comments_none (text ∷ comments) all at = comment_none text (flat_map commented comments) (All-head IsOneLine text comments all) (comments_none comments (All-tail IsOneLine text comments all)) at

-- ---- the tokens of a text and their bytes

-- the tokens from a place on, of which each lies in the text
abbrev AreWithin : List ℕ → List Token → Type 0
AreWithin bytes [] = Unit {0}
AreWithin bytes (t ∷ ts) = (t.at + t.len ≤ length bytes) × AreWithin bytes ts

bytes_same : (bytes more : List ℕ) (t : Token) → t.at + t.len ≤ length bytes → token_bytes (bytes ++ more) t ≡ token_bytes bytes t
bytes_same bytes more t le =
    ap (take (t.at + t.len - t.at)) (drop-append-le t.at bytes more (omega (arith, le)))
    ∙ take-append-le (t.at + t.len - t.at) (drop t.at bytes) more (let long = length-drop t.at bytes in omega (arith, long, le))

-- what begins so with one rest begins so with another
put_same : (kind : TokenKind) (place a b : ℕ) (w v : List ℕ) → v ≡ w → (is : List Item) (t u : Text) → ((js : List Item) → Begins js t (EndAt a) → Begins js u (EndAt b))
    → Begins is (put_before kind place w t) (EndAt a) → Begins is (put_before kind place v u) (EndAt b)
put_same kinds.Word place a b w v same [] t u later begins = absurd cc
put_same kinds.Word place a b w v same (i ∷ is) t u later begins = (subst (λ (x : List ℕ). SpellsItem x i) (sym same) begins.0, later is begins.1)
put_same kinds.Open place a b w v same [] t u later begins = absurd cc
put_same kinds.Open place a b w v same (i ∷ is) t u later begins = (begins.0, later is begins.1)
put_same kinds.Close place a b w v same [] t u later begins = absurd cc
put_same kinds.Close place a b w v same (i ∷ is) t u later begins = (begins.0, later is begins.1)

begins_same : (bytes more : List ℕ) (a : ℕ) (ts : List Token) → AreWithin bytes ts → (is : List Item) → Begins is (text_of bytes ts) (EndAt a) → Begins is (text_of (bytes ++ more) ts) (EndAt (length (bytes ++ more)))
begins_same bytes more a [] within [] begins = refl
begins_same bytes more a [] within (i ∷ is) begins = absurd begins
begins_same bytes more a (t ∷ ts) within is begins =
    put_same t.kind t.at a (length (bytes ++ more)) (token_bytes bytes t) (token_bytes (bytes ++ more) t) (bytes_same bytes more t within.0) is (text_of bytes ts) (text_of (bytes ++ more) ts)
    (begins_same bytes more a ts within.1) begins

-- tokens lie in what they are tokens of
begun_within : (skip at n : ℕ) (bytes : List ℕ) (whole : List ℕ) → at + length bytes ≤ length whole → AreWithin whole (tokens_past skip at bytes)
begun_within skip at n [] whole le = tt
begun_within (suc skip) at n (b ∷ bytes) whole le = begun_within skip (at + 1) n bytes whole (omega (arith, le))
begun_within zero at n (b ∷ bytes) whole le =
    let rest = begun_within (extent b bytes) (at + 1) n bytes whole (omega (arith, le)) in
    let run : run_length bytes ≤ length bytes = prefix_len-le-length is_word_byte bytes in
    elim (not (starts_token b)) as (λ v. AreWithin whole (cond v [] (cond (b == 40) (token_of kinds.Open at 1 ∷ []) (cond (b == 41) (token_of kinds.Close at 1 ∷ []) (token_of kinds.Word at (1 + run_length bytes) ∷ []))) ++ tokens_past (extent b bytes) (at + 1) bytes)) [
      | true ↦ rest
      | false ↦ elim (b == 40) as (λ v. AreWithin whole (cond v (token_of kinds.Open at 1 ∷ []) (cond (b == 41) (token_of kinds.Close at 1 ∷ []) (token_of kinds.Word at (1 + run_length bytes) ∷ [])) ++ tokens_past (extent b bytes) (at + 1) bytes)) [
        | true ↦ (omega (arith, le), rest)
        | false ↦ elim (b == 41) as (λ v. AreWithin whole (cond v (token_of kinds.Close at 1 ∷ []) (token_of kinds.Word at (1 + run_length bytes) ∷ []) ++ tokens_past (extent b bytes) (at + 1) bytes)) [
          | true ↦ (omega (arith, le), rest)
          | false ↦ (omega (arith, le, run), rest)
        ]
      ]
    ]

-- ---- files

module _ (front : List ℕ) (comments : List (List ℕ)) (all : All IsOneLine comments) where
  abbrev lines : List ℕ
  lines = flat_map commented comments

  abbrev bytes : List ℕ
  bytes = front ++ 10 ∷ []

  abbrev whole : List ℕ
  whole = bytes ++ lines

  whole_is : whole ≡ front ++ 10 ∷ lines
  whole_is = append_assoc front (10 ∷ []) lines

  tokens_kept : (from : ℕ) → from ≤ length bytes → tokens_from from whole ≡ tokens_from from bytes
  unfolding tokens_from
  tokens_kept from le =
      let long : length bytes ≡ length front + 1 = length-append front (10 ∷ []) in
      ⊎_elim
      (λ (inside : from < length front + 1).
      ap (λ (w : List ℕ). tokens_past 0 from (drop from w)) whole_is
      ∙ (ap (tokens_past 0 from) (drop-append-le from front (10 ∷ lines) (omega (arith, inside)))
      ∙ (tokens_same (drop from front) lines 0 from (comments_none comments all) (omega arith)
      ∙ ap (tokens_past 0 from) (sym (drop-append-le from front (10 ∷ []) (omega (arith, inside)))))))
      (λ (past : length front + 1 ≤ from).
      let at : from ≡ length bytes = omega (arith, past, le, long) in
      ap (λ (n : ℕ). tokens_past 0 from (drop n whole)) at
      ∙ (ap (tokens_past 0 from) (drop-append_seam bytes lines)
      ∙ (comments_none comments all from
      ∙ sym (ap (λ (n : ℕ). tokens_past 0 from (drop n bytes)) at ∙ ap (tokens_past 0 from) (drop-length bytes)))))
      (cases_lt from (length front + 1))

  from_within : (from : ℕ) → from ≤ length bytes → AreWithin bytes (tokens_from from bytes)
  unfolding tokens_from
  from_within from le = begun_within 0 from 0 (drop from bytes) bytes (let long = length-drop from bytes in omega (arith, long, le))

  line_kept : first_line whole ≡ first_line bytes
  line_kept =
      let n = line_length bytes in
      let same : line_length whole ≡ n = ap line_length whole_is ∙ run_same (λ x. not (x == 10)) refl front lines in
      let few : n ≤ length front = run_within (λ x. not (x == 10)) refl front [] in
      ap (λ (k : ℕ). take k whole) same ∙ take-append-le n bytes lines (let long = length-append front (10 ∷ []) in omega (arith, few, long))

  second_kept : second_line whole ≡ second_line bytes
  second_kept =
      let n = line_length bytes in
      let few : n ≤ length front = run_within (λ x. not (x == 10)) refl front [] in
      let long = length-append front (10 ∷ []) in
      let more = length-append bytes lines in
      let first : length (first_line bytes) ≡ n = length-take n bytes ∙ omega (arith, few, long) in
      ap (λ (l : List ℕ). min (length l + 1) (length whole)) line_kept ∙ omega (arith, first, few, long, more)

  second_within : second_line bytes ≤ length bytes
  second_within = omega arith

pub comments_are_no_items : CommentsAreNoItems
unfolding text_from
comments_are_no_items header items front comments all is =
    let from = second_line (bytes front comments all) in
    let within = second_within front comments all in (
      ap trimmed (line_kept front comments all) ∙ is.0,
      (
        length (whole front comments all),
        subst (λ (n : ℕ). Begins items (text_from n (whole front comments all)) (EndAt (length (whole front comments all)))) (sym (second_kept front comments all))
            (subst (λ (ts : List Token). Begins items (text_of (whole front comments all) ts) (EndAt (length (whole front comments all)))) (sym (tokens_kept front comments all from within))
            (begins_same (bytes front comments all) (lines front comments all) is.1.0 (tokens_from from (bytes front comments all)) (from_within front comments all from within) items is.1.1)),
      ),
    )
