-- Files that agree on their first bytes have the same lexemes there.
use Rattle.std.{proofs.Common.{◌≡◌, ℕ, zero, suc, ◌+◌, ◌-◌, ◌≤◌, ◌<◌, ◌==◌, ◌||◌, ⊎_elim, Bool, true, false, cond, not, List, [], ◌∷◌, ◌++◌, length, take, drop, refl, sym, ap, subst, ◌∙◌, arith}, proofs.lemmas.List.{drop-drop, drop-take}}
use Rattle.net_core.{proofs.Library.{prefix_len, cases_eq, cases_lt, prefix_len-le-length}, specs.Terms.{is_space, is_word_byte}}
use Rattle.snd_tokens.{specs.declared.token.Token.Token, specs.Terms.{starts_token, line_length, run_length, extent, token_of, token_bytes, begun, tokens_past, tokens_from, WordAt, OpenAt, CloseAt, text_of, text_from}}
use Rattle.text_kit.{specs.Places.EndsBefore, proofs.Alike.AgreeThrough}
use Rattle.snd_tokens.specs.declared.token.TokenKind.TheVariants as kinds

-- lists that agree on m elements agree on fewer
pub take_less : (n m : ℕ) (xs ys : List ℕ) → n ≤ m → take m xs ≡ take m ys → take n xs ≡ take n ys
take_less zero m xs ys le e = refl
take_less (suc n) zero xs ys le e = absurd (omega (arith, le))
take_less (suc n) (suc m) [] [] le e = refl
take_less (suc n) (suc m) [] (y ∷ ys) le e = absurd cc
take_less (suc n) (suc m) (x ∷ xs) [] le e = absurd cc
take_less (suc n) (suc m) (x ∷ xs) (y ∷ ys) le e =
    let one : x ≡ y = cc in
    let two : take m xs ≡ take m ys = cc in
    let rest = take_less n m xs ys (omega (arith, le)) two in
    ap (λ i. i ∷ take n xs) one ∙ ap (λ is. y ∷ is) rest

-- a run that ends among them is as long in both
pub run_same : (p : ℕ → Bool) (m : ℕ) (xs ys : List ℕ) → prefix_len p xs < m → take m xs ≡ take m ys → prefix_len p ys ≡ prefix_len p xs
run_same p zero xs ys lt e = absurd (omega (arith, lt))
run_same p (suc m) [] [] lt e = refl
run_same p (suc m) [] (y ∷ ys) lt e = absurd cc
run_same p (suc m) (x ∷ xs) [] lt e = absurd cc
run_same p (suc m) (x ∷ xs) (y ∷ ys) lt e =
    let one : x ≡ y = cc in
    let two : take m xs ≡ take m ys = cc in
    let same : prefix_len p (y ∷ ys) ≡ prefix_len p (x ∷ ys) = ap (λ i. prefix_len p (i ∷ ys)) (sym one) in
    same ∙ elim (p x) as (λ v. cond v (1 + prefix_len p xs) 0 < suc m → cond v (1 + prefix_len p ys) 0 ≡ cond v (1 + prefix_len p xs) 0) [
      | true ↦ λ l. ap (λ n. 1 + n) (run_same p m xs ys (omega (arith, l)) two)
      | false ↦ λ l. refl
    ] lt

extent_same : (b m : ℕ) (xs ys : List ℕ) → extent b xs < m → take m xs ≡ take m ys → extent b ys ≡ extent b xs
extent_same b m xs ys lt e =
    elim (b == 35) as (λ v. cond v (line_length xs) (cond (is_word_byte b) (run_length xs) 0) < m → cond v (line_length ys) (cond (is_word_byte b) (run_length ys) 0) ≡ cond v (line_length xs) (cond (is_word_byte b) (run_length xs) 0)) [
      | true ↦ λ l. run_same (λ c. not (c == 10)) m xs ys l e
      | false ↦ elim (is_word_byte b) as (λ v. cond v (run_length xs) 0 < m → cond v (run_length ys) 0 ≡ cond v (run_length xs) 0) [
        | true ↦ λ l. run_same is_word_byte m xs ys l e
        | false ↦ λ l. refl
      ]
    ] lt

-- what a byte begins, whatever comes after it
data Begun (at b : ℕ) : Type 0 where
  Nothing : ((bytes : List ℕ) → begun at b bytes ≡ []) → Begun at b
  Opens : ((bytes : List ℕ) → begun at b bytes ≡ token_of kinds.Open at 1 ∷ []) → Begun at b
  Closes : ((bytes : List ℕ) → begun at b bytes ≡ token_of kinds.Close at 1 ∷ []) → Begun at b
  Words : ((bytes : List ℕ) → begun at b bytes ≡ token_of kinds.Word at (1 + run_length bytes) ∷ []) → ((bytes : List ℕ) → extent b bytes ≡ run_length bytes) → Begun at b

word_extent : (b : ℕ) → not (starts_token b) ≡ false → (b == 40) ≡ false → (b == 41) ≡ false → (bytes : List ℕ) → extent b bytes ≡ run_length bytes
word_extent b s o c bytes =
    let no_comment : ((is_space b ≡ false) × ((b == 35) ≡ false)) = parts (is_space b) (b == 35) (notnot (is_space b || b == 35) s) in
    rw (no_comment.1, no_comment.0, o, c) refl
  where
    notnot : (a : Bool) → not (not a) ≡ false → a ≡ false
    notnot true e = absurd cc
    notnot false e = refl

    parts : (a d : Bool) → (a || d) ≡ false → (a ≡ false) × (d ≡ false)
    parts true d e = absurd cc
    parts false d e = (refl, e)

begun_is : (at b : ℕ) → Begun at b
begun_is at b =
    elim (not (starts_token b)) as (λ v. not (starts_token b) ≡ v → Begun at b) [
      | true ↦ λ s. Nothing (λ bytes. rw s refl)
      | false ↦ λ s. elim (b == 40) as (λ v. (b == 40) ≡ v → Begun at b) [
        | true ↦ λ o. Opens (λ bytes. rw (s, o) refl)
        | false ↦ λ o. elim (b == 41) as (λ v. (b == 41) ≡ v → Begun at b) [
          | true ↦ λ c. Closes (λ bytes. rw (s, o, c) refl)
          | false ↦ λ c. Words (λ bytes. rw (s, o, c) refl) (word_extent b s o c)
        ] refl
      ] refl
    ] refl

module _ (whole : List ℕ) (p limit : ℕ) where
  -- no lexeme at the limit or after it ends before it
  late : (skip at : ℕ) (bytes : List ℕ) → limit ≤ at + skip → EndsBefore p limit (text_of whole (tokens_past skip at bytes)) → ⊥
  late skip at [] le ends = ends
  late (suc n) at (b ∷ bytes) le ends = late n (at + 1) bytes (omega (arith, le)) ends
  late zero at (b ∷ bytes) le ends =
      let rest = tokens_past (extent b bytes) (at + 1) bytes in
      let later : EndsBefore p limit (text_of whole rest) → ⊥ = late (extent b bytes) (at + 1) bytes (omega (arith, le)) in
      elim (begun_is at b) [
        | Nothing is ↦ later (subst (λ (ts : List Token). EndsBefore p limit (text_of whole (ts ++ rest))) (is bytes) ends)
        | Opens is ↦ let e = subst (λ (ts : List Token). EndsBefore p limit (text_of whole (ts ++ rest))) (is bytes) ends in
            ⊎_elim (λ here. omega (arith, e.0 here, le)) (λ other. later (e.1 other)) (cases_eq at p)
        | Closes is ↦ let e = subst (λ (ts : List Token). EndsBefore p limit (text_of whole (ts ++ rest))) (is bytes) ends in
            ⊎_elim (λ here. omega (arith, e.0 here, le)) (λ other. later (e.1 other)) (cases_eq at p)
        | Words is long ↦ let e = subst (λ (ts : List Token). EndsBefore p limit (text_of whole (ts ++ rest))) (is bytes) ends in
            ⊎_elim (λ here. omega (arith, e.0 here, le)) (λ other. later (e.1 other)) (cases_eq at p)
      ]

drop_next : (whole : List ℕ) (at b : ℕ) (bytes : List ℕ) → drop at whole ≡ b ∷ bytes → drop (at + 1) whole ≡ bytes
drop_next whole at b bytes e = sym (drop-drop 1 at whole) ∙ ap (drop 1) e

-- the bytes of a word
word_bytes : (whole : List ℕ) (at b n : ℕ) (bytes : List ℕ) → drop at whole ≡ b ∷ bytes → token_bytes whole (token_of kinds.Word at (1 + n)) ≡ b ∷ take n bytes
word_bytes whole at b n bytes e =
    let size : at + (1 + n) - at ≡ suc n = omega arith in
    ap (λ k. take k (drop at whole)) size ∙ ap (take (suc n)) e

take_size : (n : ℕ) (xs : List ℕ) → n ≤ length xs → length (take n xs) ≡ n
take_size zero xs le = refl
take_size (suc n) [] le = absurd (omega (arith, le))
take_size (suc n) (x ∷ xs) le = omega (arith, take_size n xs (omega (arith, le)))

module _ (whole other : List ℕ) (p limit : ℕ) where
  -- a byte of both, and what comes after what it begins
  step : (at b : ℕ) (bs cs : List ℕ) → drop at whole ≡ b ∷ bs → drop at other ≡ b ∷ cs → take (limit - (at + 1)) bs ≡ take (limit - (at + 1)) cs
      → (EndsBefore p limit (text_of whole (tokens_past (extent b bs) (at + 1) bs)) → AgreeThrough p (text_of whole (tokens_past (extent b bs) (at + 1) bs)) (text_of other (tokens_past (extent b cs) (at + 1) cs)))
      → EndsBefore p limit (text_of whole (tokens_past zero at (b ∷ bs))) → AgreeThrough p (text_of whole (tokens_past zero at (b ∷ bs))) (text_of other (tokens_past zero at (b ∷ cs)))
  step at b bs cs first second same rest ends =
      let ts = tokens_past (extent b bs) (at + 1) bs in
      let us = tokens_past (extent b cs) (at + 1) cs in
      let T = text_of whole ts in
      let U = text_of other us in
      elim (begun_is at b) [
        | Nothing is ↦
            let e = subst (λ (i : List Token). EndsBefore p limit (text_of whole (i ++ ts))) (is bs) ends in
            subst (λ (i : List Token). AgreeThrough p (text_of whole (i ++ ts)) (text_of other (begun at b cs ++ us))) (sym (is bs))
            (subst (λ (i : List Token). AgreeThrough p T (text_of other (i ++ us))) (sym (is cs)) (rest e))
        | Opens is ↦
            let e = subst (λ (i : List Token). EndsBefore p limit (text_of whole (i ++ ts))) (is bs) ends in
            subst (λ (i : List Token). AgreeThrough p (text_of whole (i ++ ts)) (text_of other (begun at b cs ++ us))) (sym (is bs))
            (subst (λ (i : List Token). AgreeThrough p (OpenAt at T) (text_of other (i ++ us))) (sym (is cs)) (U, refl, λ ne. rest (e.1 ne)))
        | Closes is ↦
            let e = subst (λ (i : List Token). EndsBefore p limit (text_of whole (i ++ ts))) (is bs) ends in
            subst (λ (i : List Token). AgreeThrough p (text_of whole (i ++ ts)) (text_of other (begun at b cs ++ us))) (sym (is bs))
            (subst (λ (i : List Token). AgreeThrough p (CloseAt at T) (text_of other (i ++ us))) (sym (is cs)) (U, refl, λ ne. rest (e.1 ne)))
        | Words is long ↦
            let e = subst (λ (i : List Token). EndsBefore p limit (text_of whole (i ++ ts))) (is bs) ends in
            let n = run_length bs in
            let w = token_bytes whole (token_of kinds.Word at (1 + n)) in
            let v = token_bytes other (token_of kinds.Word at (1 + run_length cs)) in
            let size : length w ≡ 1 + n = ap length (word_bytes whole at b n bs first) ∙ omega (arith, take_size n bs (prefix_len-le-length is_word_byte bs)) in
            let within : n < limit - (at + 1) = ⊎_elim (λ lt. lt) (λ ge. absurd (⊎_elim
            (λ here. omega (arith, e.0 here, size, ge))
            (λ ne. late whole p limit (extent b bs) (at + 1) bs (omega (arith, long bs, ge)) (e.1 ne))
            (cases_eq at p))) (cases_lt n (limit - (at + 1))) in
            let runs : run_length cs ≡ n = run_same is_word_byte (limit - (at + 1)) bs cs within same in
            let words : v ≡ w =
            ap (λ k. token_bytes other (token_of kinds.Word at (1 + k))) runs
            ∙ (word_bytes other at b n cs second ∙ (ap (λ i. b ∷ i) (sym (take_less n (limit - (at + 1)) bs cs (omega (arith, within)) same)) ∙ sym (word_bytes whole at b n bs first))) in
            subst (λ (i : List Token). AgreeThrough p (text_of whole (i ++ ts)) (text_of other (begun at b cs ++ us))) (sym (is bs))
            (subst (λ (i : List Token). AgreeThrough p (WordAt at w T) (text_of other (i ++ us))) (sym (is cs)) (U, ap (λ (x : List ℕ). WordAt at x U) words, λ ne. rest (e.1 ne)))
      ]

  agree : (skip at : ℕ) (bs cs : List ℕ) → drop at whole ≡ bs → drop at other ≡ cs → take (limit - at) bs ≡ take (limit - at) cs
      → EndsBefore p limit (text_of whole (tokens_past skip at bs)) → AgreeThrough p (text_of whole (tokens_past skip at bs)) (text_of other (tokens_past skip at cs))
  agree skip at [] cs first second same ends = absurd ends
  agree skip at (b ∷ bs) [] first second same ends = ⊎_elim
      (λ lt. let size : limit - at ≡ suc (limit - (at + 1)) = omega (arith, lt) in
      let e : b ∷ take (limit - (at + 1)) bs ≡ [] = subst (λ n. take n (b ∷ bs) ≡ take n []) size same in absurd cc)
      (λ ge. absurd (late whole p limit skip at (b ∷ bs) (omega (arith, ge)) ends))
      (cases_lt at limit)
  agree (suc n) at (b ∷ bs) (c ∷ cs) first second same ends = ⊎_elim
      (λ lt. let size : limit - at ≡ suc (limit - (at + 1)) = omega (arith, lt) in
      let e : b ∷ take (limit - (at + 1)) bs ≡ c ∷ take (limit - (at + 1)) cs = subst (λ n. take n (b ∷ bs) ≡ take n (c ∷ cs)) size same in
      let two : take (limit - (at + 1)) bs ≡ take (limit - (at + 1)) cs = cc in
      agree n (at + 1) bs cs (drop_next whole at b bs first) (drop_next other at c cs second) two ends)
      (λ ge. absurd (late whole p limit (suc n) at (b ∷ bs) (omega (arith, ge)) ends))
      (cases_lt at limit)
  agree zero at (b ∷ bs) (c ∷ cs) first second same ends = ⊎_elim
      (λ lt. let size : limit - at ≡ suc (limit - (at + 1)) = omega (arith, lt) in
      let e : b ∷ take (limit - (at + 1)) bs ≡ c ∷ take (limit - (at + 1)) cs = subst (λ n. take n (b ∷ bs) ≡ take n (c ∷ cs)) size same in
      let one : b ≡ c = cc in
      let two : take (limit - (at + 1)) bs ≡ take (limit - (at + 1)) cs = cc in
      let here : drop at other ≡ b ∷ cs = second ∙ ap (λ i. i ∷ cs) (sym one) in
      subst (λ i. AgreeThrough p (text_of whole (tokens_past zero at (b ∷ bs))) (text_of other (tokens_past zero at (i ∷ cs)))) one
      (step at b bs cs first here two
      (⊎_elim
      (λ short. λ later. subst (λ k. AgreeThrough p (text_of whole (tokens_past (extent b bs) (at + 1) bs)) (text_of other (tokens_past k (at + 1) cs))) (sym (extent_same b (limit - (at + 1)) bs cs short two))
      (agree (extent b bs) (at + 1) bs cs (drop_next whole at b bs first) (drop_next other at b cs here) two later))
      (λ long. λ later. absurd (late whole p limit (extent b bs) (at + 1) bs (omega (arith, long)) later))
      (cases_lt (extent b bs) (limit - (at + 1)))) ends))
      (λ ge. absurd (late whole p limit zero at (b ∷ bs) (omega (arith, ge)) ends))
      (cases_lt at limit)

-- Bytes that agree past the lexeme at a place have the same lexemes through it.
pub files_agree : (whole other : List ℕ) (from p limit : ℕ) → from ≤ limit → take limit whole ≡ take limit other → EndsBefore p limit (text_from from whole) → AgreeThrough p (text_from from whole) (text_from from other)
unfolding text_from tokens_from
files_agree whole other from p limit le same ends =
    let parts : (xs : List ℕ) → drop from (take limit xs) ≡ take (limit - from) (drop from xs) = λ xs. ap (λ n. drop from (take n xs)) (omega (arith, le)) ∙ drop-take from (limit - from) xs in
    agree whole other p limit zero from (drop from whole) (drop from other) refl refl (sym (parts whole) ∙ (ap (drop from) same ∙ parts other)) ends
