-- what the tokens of a text are, byte by byte
use Rattle.std.{proofs.Common.{◌≡◌, ℕ, zero, suc, ◌+◌, ◌-◌, ◌<◌, ◌≤◌, ◌==◌, Bool, true, false, cond, not, List, [], ◌∷◌, ◌++◌, length, get_or, take, drop, sym, refl, ap, ◌∙◌, subst, arith, drop-cons, add-one, add-zero, drop-drop}, proofs.Math.Seq.drop-length, proofs.lemmas.Bool.{eqb-true, ne_eqb, not-true}}
use Rattle.net_core.{proofs.Library.{false≢true, or_parts, and_from, prefix_len-le-length, list_all, prefix_len}, specs.Terms.{is_space, is_word_byte, is_plain}}
use Rattle.snd_tokens.{specs.Tokens.{Token, TokenKind, starts_token, line_length, run_length, extent, token_of, begun, tokens_past, tokens_from, token_bytes, IsTokenOf}, specs.declared.token.TokenKind.TheVariants.{Word, Open, Close}}

-- what is skipped is as good as not there
tokens_past-skip : (n at : ℕ) (bytes : List ℕ) → n ≤ length bytes → tokens_past n at bytes ≡ tokens_past 0 (at + n) (drop n bytes)
tokens_past-skip zero at bytes h = rw (add-zero) refl
tokens_past-skip (suc n) at [] h = absurd (omega arith)
tokens_past-skip (suc n) at (b ∷ bytes) h =
    let e : at + 1 + n ≡ at + suc n = omega arith in
    tokens_past-skip n (at + 1) bytes (omega arith) ∙ ap (λ p. tokens_past 0 p (drop n bytes)) e

-- what a byte begins lies in the text
extent_within : (b : ℕ) (bytes : List ℕ) → extent b bytes ≤ length bytes
extent_within b bytes =
    elim (b == 35) as (λ v. cond v (line_length bytes) (cond (is_word_byte b) (run_length bytes) 0) ≤ length bytes) [
      | true ↦ prefix_len-le-length _ bytes
      | false ↦ elim (is_word_byte b) as (λ v. cond v (run_length bytes) 0 ≤ length bytes) [
        | true ↦ prefix_len-le-length _ bytes
        | false ↦ omega arith
      ]
    ]

-- from a place on there is the byte there, and the rest
drop-at : (at : ℕ) (bytes : List ℕ) → at < length bytes → drop at bytes ≡ get_or bytes at 0 ∷ drop (at + 1) bytes
drop-at at bytes h = rw (add-one) (drop-cons bytes at 0 h)

-- what the byte at a place begins, and then the tokens after it
pub tokens_from-step : (at : ℕ) (bytes : List ℕ) (b : ℕ) → at < length bytes → get_or bytes at 0 ≡ b → tokens_from at bytes ≡ begun at b (drop (at + 1) bytes) ++ tokens_from (at + 1 + extent b (drop (at + 1) bytes)) bytes
unfolding tokens_from
tokens_from-step at bytes b h e =
    let rest : List ℕ = drop (at + 1) bytes in
    let n : ℕ = extent b rest in
    let split : drop at bytes ≡ b ∷ rest = rw (← e) (drop-at at bytes h) in
    let skipped = tokens_past-skip n (at + 1) rest (extent_within b rest) in
    ap (tokens_past 0 at) split ∙ ap (λ ts. begun at b rest ++ ts) (skipped ∙ ap (tokens_past 0 (at + 1 + n)) (drop-drop n (at + 1) bytes))

-- at the end there is no token
pub tokens_from-end : (bytes : List ℕ) → tokens_from (length bytes) bytes ≡ []
unfolding tokens_from
tokens_from-end bytes = rw (drop-length bytes) refl

-- a byte that passes a test isn't one that fails it
apart : (p : ℕ → Bool) (b c : ℕ) → p b ≡ true → p c ≡ false → (b == c) ≡ false
apart p b c t f =
    elim (b == c) as (λ v. (b == c) ≡ v → v ≡ false) [
      | true ↦ λ e. absurd (false≢true (sym f ∙ ap p (sym (eqb-true b c e)) ∙ t))
      | false ↦ λ e. refl
    ] refl

-- white space begins nothing
begun-space : (at b : ℕ) (bytes : List ℕ) → is_space b ≡ true → begun at b bytes ≡ []
begun-space at b bytes s = rw s refl

extent-space : (b : ℕ) (bytes : List ℕ) → is_space b ≡ true → extent b bytes ≡ 0
extent-space b bytes s =
    rw (apart is_space b 35 s refl, s) refl

pub tokens_from-space : (at : ℕ) (bytes : List ℕ) → at < length bytes → is_space (get_or bytes at 0) ≡ true → tokens_from at bytes ≡ tokens_from (at + 1) bytes
tokens_from-space at bytes h s =
    let b : ℕ = get_or bytes at 0 in
    let rest : List ℕ = drop (at + 1) bytes in
    tokens_from-step at bytes b h refl
    ∙ ap (λ ts. ts ++ tokens_from (at + 1 + extent b rest) bytes) (begun-space at b rest s)
    ∙ ap (λ n. tokens_from (at + 1 + n) bytes) (extent-space b rest s)
    ∙ ap (λ n. tokens_from n bytes) (add-zero (at + 1))

-- a comment is passed over
pub tokens_from-comment : (at : ℕ) (bytes : List ℕ) → at < length bytes → get_or bytes at 0 ≡ 35 → tokens_from at bytes ≡ tokens_from (at + 1 + line_length (drop (at + 1) bytes)) bytes
tokens_from-comment at bytes h e = tokens_from-step at bytes 35 h e

-- a parenthesis is a token of its own
pub tokens_from-open : (at end : ℕ) (bytes : List ℕ) → at < length bytes → get_or bytes at 0 ≡ 40 → end ≡ at + 1 → tokens_from at bytes ≡ token_of Open at (end - at) ∷ tokens_from end bytes
tokens_from-open at end bytes h b e =
    let long : 1 ≡ end - at = omega arith in
    let next : at + 1 + 0 ≡ end = omega arith in
    tokens_from-step at bytes 40 h b ∙ ap (λ n. token_of Open at n ∷ tokens_from (at + 1 + 0) bytes) long ∙ ap (λ n. token_of Open at (end - at) ∷ tokens_from n bytes) next

pub tokens_from-close : (at end : ℕ) (bytes : List ℕ) → at < length bytes → get_or bytes at 0 ≡ 41 → end ≡ at + 1 → tokens_from at bytes ≡ token_of Close at (end - at) ∷ tokens_from end bytes
tokens_from-close at end bytes h b e =
    let long : 1 ≡ end - at = omega arith in
    let next : at + 1 + 0 ≡ end = omega arith in
    tokens_from-step at bytes 41 h b ∙ ap (λ n. token_of Close at n ∷ tokens_from (at + 1 + 0) bytes) long ∙ ap (λ n. token_of Close at (end - at) ∷ tokens_from n bytes) next

-- a word byte that is no `#` begins a word
begun-word : (at b : ℕ) (bytes : List ℕ) → starts_token b ≡ true → is_word_byte b ≡ true → begun at b bytes ≡ token_of Word at (1 + run_length bytes) ∷ []
begun-word at b bytes s w = rw (s, apart is_word_byte b 40 w refl, apart is_word_byte b 41 w refl) refl

extent-word : (b : ℕ) (bytes : List ℕ) → starts_token b ≡ true → is_word_byte b ≡ true → extent b bytes ≡ run_length bytes
extent-word b bytes s w = rw (apart starts_token b 35 s refl, w) refl

pub tokens_from-word : (at end : ℕ) (bytes : List ℕ) → at < length bytes → starts_token (get_or bytes at 0) ≡ true → is_word_byte (get_or bytes at 0) ≡ true → end ≡ at + 1 + run_length (drop (at + 1) bytes) → tokens_from at bytes ≡ token_of Word at (end - at) ∷ tokens_from end bytes
tokens_from-word at end bytes h s w e =
    let b : ℕ = get_or bytes at 0 in
    let rest : List ℕ = drop (at + 1) bytes in
    let long : 1 + run_length rest ≡ end - at = omega arith in
    tokens_from-step at bytes b h refl
    ∙ ap (λ ts. ts ++ tokens_from (at + 1 + extent b rest) bytes) (begun-word at b rest s w)
    ∙ ap (λ n. token_of Word at (1 + run_length rest) ∷ tokens_from (at + 1 + n) bytes) (extent-word b rest s w)
    ∙ ap (λ n. token_of Word at n ∷ tokens_from (at + 1 + run_length rest) bytes) long
    ∙ ap (λ n. token_of Word at (end - at) ∷ tokens_from n bytes) (sym e)

-- the first token, where it is known from its first byte to its end
pub first_token : (kind : TokenKind) (at end : ℕ) (bytes : List ℕ) (t : Token) → t ≡ token_of kind at (end - at) → at ≤ end → tokens_from at bytes ≡ token_of kind at (end - at) ∷ tokens_from end bytes → tokens_from at bytes ≡ t ∷ tokens_from (t.at + t.len) bytes
first_token kind at end bytes t e h first =
    let same : end ≡ at + (end - at) = omega arith in
    first ∙ ap (λ n. token_of kind at (end - at) ∷ tokens_from n bytes) same ∙ ap (λ u. u ∷ tokens_from (u.at + u.len) bytes) (sym e)

-- a byte that begins a token and is no parenthesis is a byte of a word
pub is_word_byte-start : (b : ℕ) → starts_token b ≡ true → ¬ (b ≡ 40) → ¬ (b ≡ 41) → is_word_byte b ≡ true
is_word_byte-start b s no_open no_close =
    let no_space : is_space b ≡ false = (or_parts (is_space b) (b == 35) (not-true _ s)).0 in
    rw (no_space, ne_eqb b 40 no_open, ne_eqb b 41 no_close) refl

-- the longest run has word bytes alone
list_all-run : (p : ℕ → Bool) (bytes : List ℕ) → list_all p (take (prefix_len p bytes) bytes) ≡ true
list_all-run p [] = refl
list_all-run p (b ∷ bytes) =
    let n : ℕ = prefix_len p bytes in
    let more : 1 + n ≡ suc n = omega arith in
    elim (p b) as (λ v. p b ≡ v → list_all p (take (cond v (1 + n) 0) (b ∷ bytes)) ≡ true) [
      | true ↦ λ e. subst (λ k. list_all p (take k (b ∷ bytes)) ≡ true) (sym more) (and_from _ _ e (list_all-run p bytes))
      | false ↦ λ e. refl
    ] refl

-- a word's bytes are those of a word
pub word_spelled : (at end : ℕ) (bytes : List ℕ) (t : Token) → t ≡ token_of Word at (end - at) → at < length bytes → starts_token (get_or bytes at 0) ≡ true → is_word_byte (get_or bytes at 0) ≡ true → end ≡ at + 1 + run_length (drop (at + 1) bytes) → end ≤ length bytes → IsTokenOf at bytes t
word_spelled at end bytes t made h s w e within =
    let b : ℕ = get_or bytes at 0 in
    let rest : List ℕ = drop (at + 1) bytes in
    let n : ℕ = run_length rest in
    let count : at + (end - at) - at ≡ suc n = omega arith in
    let run : token_bytes bytes (token_of Word at (end - at)) ≡ b ∷ take n rest =
    ap (λ k. take k (drop at bytes)) count ∙ ap (take (suc n)) (drop-at at bytes h) in
    let plain : is_plain (b ∷ take n rest) ≡ true =
    and_from _ _ (ap not (apart starts_token b 35 s refl)) (and_from _ _ w (list_all-run is_word_byte rest)) in
    subst (IsTokenOf at bytes) (sym made) (record {
      after = omega arith;
      some = omega arith;
      within = omega arith;
      spelled = subst (λ bs. is_plain bs ≡ true) (sym run) plain;
    })
