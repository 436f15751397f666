-- Lines whose bytes agree past the token at a place begin with the same lexemes.
use Rattle.std.{proofs.Common.{◌≡◌, ℕ, zero, suc, ◌+◌, ◌-◌, ◌<◌, ◌≤◌, ◌==◌, ◌||◌, min, Bool, true, false, cond, not, List, [], ◌∷◌, ◌++◌, length, take, drop, refl, sym, ap, subst, ◌∙◌, arith, ⊎_elim, take-take}, proofs.lemmas.List.{drop-drop, drop-take, length-take}}
use Rattle.net_core.{proofs.Library.cases_lt, specs.Terms.{is_space, is_word_byte}}
use Rattle.snd_tokens.{specs.declared.token.Token.Token, specs.Terms.{Text, WordAt, OpenAt, CloseAt, EndAt, begun, extent, run_length, starts_token, text_from, text_of, token_bytes, token_of, tokens_from, tokens_past}}
use Rattle.text_kit.{specs.Places.{EndsBefore, place}, proofs.Lemmas.{files_agree, Same, agree_same, past}}
use Rattle.tree_reader.proofs.Places.{end_same, line_after, line_end, line_rises, line_text, run_take}
use Rattle.snd_tokens.specs.declared.token.TokenKind.TheVariants as kinds

end_place : (c p : ℕ) → place (past c (EndAt p)) ≡ p
end_place zero p = refl
end_place (suc c) p = refl

drop_next : (whole : List ℕ) (a b : ℕ) (bytes : List ℕ) → drop a whole ≡ b ∷ bytes → drop (a + 1) whole ≡ bytes
drop_next whole a b bytes e = sym (drop-drop 1 a whole) ∙ ap (drop 1) e

no_comment : (b : ℕ) → not (starts_token b) ≡ false → is_space b ≡ false
no_comment b s = first (is_space b) (b == 35) (notnot (is_space b || b == 35) s)
  where
    notnot : (a : Bool) → not (not a) ≡ false → a ≡ false
    notnot true e = absurd cc
    notnot false e = refl

    first : (a d : Bool) → (a || d) ≡ false → a ≡ false
    first true d e = absurd cc
    first false d e = refl

word_byte : (b : ℕ) → not (starts_token b) ≡ false → (b == 40) ≡ false → (b == 41) ≡ false → is_word_byte b ≡ true
word_byte b s o c = rw (no_comment b s, o, c) refl

module _ (at n : ℕ) where
  -- a lexeme before a text in which the place is passed
  next_word : (c a : ℕ) (w : List ℕ) (text : Text) → (a ≡ at → a + length w < n) → place (past c (WordAt a w text)) ≡ at → ((d : ℕ) → place (past d text) ≡ at → EndsBefore at n text) → EndsBefore at n (WordAt a w text)
  next_word zero a w text small here later = (small, λ ne. absurd (ne here))
  next_word (suc d) a w text small here later = (small, λ ne. later d here)

  next_open : (c a : ℕ) (text : Text) → at + 1 < n → place (past c (OpenAt a text)) ≡ at → ((d : ℕ) → place (past d text) ≡ at → EndsBefore at n text) → EndsBefore at n (OpenAt a text)
  next_open zero a text less here later = (λ e. omega (arith, e, less), λ ne. absurd (ne here))
  next_open (suc d) a text less here later = (λ e. omega (arith, e, less), λ ne. later d here)

  next_close : (c a : ℕ) (text : Text) → at + 1 < n → place (past c (CloseAt a text)) ≡ at → ((d : ℕ) → place (past d text) ≡ at → EndsBefore at n text) → EndsBefore at n (CloseAt a text)
  next_close zero a text less here later = (λ e. omega (arith, e, less), λ ne. absurd (ne here))
  next_close (suc d) a text less here later = (λ e. omega (arith, e, less), λ ne. later d here)

  module _ (whole : List ℕ) (inside : at < length whole) (less : at + 1 < n) (run : at + run_length (drop at whole) < n) where
    word_ends : (a b : ℕ) (bs : List ℕ) → drop a whole ≡ b ∷ bs → is_word_byte b ≡ true → a ≡ at → a + length (token_bytes whole (token_of kinds.Word a (1 + run_length bs))) < n
    word_ends a b bs first plain here =
        let runs : run_length (drop a whole) ≡ 1 + run_length bs = ap run_length first ∙ ap (λ (v : Bool). cond v (1 + run_length bs) 0) plain in
        let moved : run_length (drop a whole) ≡ run_length (drop at whole) = ap (λ (i : ℕ). run_length (drop i whole)) here in
        omega (arith, length-take (a + (1 + run_length bs) - a) (drop a whole), runs, moved, here, run)

    begun_ends : (c a b : ℕ) (bs : List ℕ) (rest : List Token) → drop a whole ≡ b ∷ bs → place (past c (text_of whole (begun a b bs ++ rest))) ≡ at
        → ((d : ℕ) → place (past d (text_of whole rest)) ≡ at → EndsBefore at n (text_of whole rest)) → EndsBefore at n (text_of whole (begun a b bs ++ rest))
    begun_ends c a b bs rest first here later =
        let open_token = token_of kinds.Open a 1 ∷ [] in
        let close_token = token_of kinds.Close a 1 ∷ [] in
        let word_token = token_of kinds.Word a (1 + run_length bs) ∷ [] in
        elim (not (starts_token b)) as (λ v. not (starts_token b) ≡ v → place (past c (text_of whole (cond v [] (cond (b == 40) open_token (cond (b == 41) close_token word_token)) ++ rest))) ≡ at
        → EndsBefore at n (text_of whole (cond v [] (cond (b == 40) open_token (cond (b == 41) close_token word_token)) ++ rest))) [
          | true ↦ λ s h. later c h
          | false ↦ λ s. elim (b == 40) as (λ v. (b == 40) ≡ v → place (past c (text_of whole (cond v open_token (cond (b == 41) close_token word_token) ++ rest))) ≡ at
              → EndsBefore at n (text_of whole (cond v open_token (cond (b == 41) close_token word_token) ++ rest))) [
                | true ↦ λ o h. next_open c a (text_of whole rest) less h later
                | false ↦ λ o. elim (b == 41) as (λ v. (b == 41) ≡ v → place (past c (text_of whole (cond v close_token word_token ++ rest))) ≡ at → EndsBefore at n (text_of whole (cond v close_token word_token ++ rest))) [
                  | true ↦ λ k h. next_close c a (text_of whole rest) less h later
                  | false ↦ λ k h. next_word c a (token_bytes whole (token_of kinds.Word a (1 + run_length bs))) (text_of whole rest) (word_ends a b bs first (word_byte b s o k)) h later
                ] refl
              ] refl
        ] refl here

    token_ends : (skip a : ℕ) (bs : List ℕ) (c : ℕ) → drop a whole ≡ bs → place (past c (text_of whole (tokens_past skip a bs))) ≡ at → EndsBefore at n (text_of whole (tokens_past skip a bs))
    token_ends skip a [] c first here = absurd (omega (arith, inside, end_place c (length whole), here))
    token_ends (suc k) a (b ∷ bs) c first here = token_ends k (a + 1) bs c (drop_next whole a b bs first) here
    token_ends zero a (b ∷ bs) c first here =
        begun_ends c a b bs (tokens_past (extent b bs) (a + 1) bs) first here (λ d h. token_ends (extent b bs) (a + 1) bs d (drop_next whole a b bs first) h)

-- a lexeme that begins in a text before the text's end ends before a place that is past it
pub ends_before : (whole : List ℕ) (from at n c : ℕ) → at < length whole → at + 1 < n → at + run_length (drop at whole) < n → place (past c (text_from from whole)) ≡ at → EndsBefore at n (text_from from whole)
unfolding text_from tokens_from
ends_before whole from at n c inside less run here = token_ends at n whole inside less run zero from (drop from whole) c refl here

-- lines that agree past a token of the first, before its end, begin alike up to that token
pub line_same : (xs ys : List ℕ) (p at n c : ℕ) → p < length xs → n ≤ length xs → take n xs ≡ take n ys → n ≤ line_end p xs → at + 1 < n → at + run_length (drop at xs) < n
    → place (past c (line_text p xs)) ≡ at → Same (suc c) (line_text p xs) (line_text p ys)
line_same xs ys p at n c lt within same long less run here =
    let e = line_end p xs in
    let f = line_end p ys in
    let later : p + 1 ≤ at = omega (arith, line_after p xs c lt, here) in
    let size : length (take e xs) ≡ min e (length xs) = length-take e xs in
    let long_too : n ≤ f = ⊎_elim (λ short. absurd (omega (arith, end_same ys xs p n (sym same) short, short, long))) (λ h. h) (cases_lt f n) in
    let both : take n (take e xs) ≡ take n (take f ys) = take-take n e xs long ∙ (same ∙ sym (take-take n f ys long_too)) in
    let total : e ≡ at + (e - at) = omega (arith, less, long) in
    let cut : drop at (take e xs) ≡ take (e - at) (drop at xs) = ap (λ (k : ℕ). drop at (take k xs)) total ∙ drop-take at (e - at) xs in
    let shorter : run_length (drop at (take e xs)) ≤ run_length (drop at xs) =
    subst (λ (l : List ℕ). run_length l ≤ run_length (drop at xs)) (sym cut) (run_take is_word_byte (e - at) (drop at xs)) in
    let inside : at < length (take e xs) = omega (arith, size, less, long, within) in
    let ends = ends_before (take e xs) (p + 1) at n c inside less (omega (arith, shorter, run)) here in
    agree_same c at (line_text p xs) (line_text p ys) (line_rises p xs lt) here (files_agree (take e xs) (take f ys) (p + 1) at n (omega (arith, later, less)) both ends)
