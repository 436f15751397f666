-- what the comments of a text are, byte by byte
use Rattle.std.{proofs.Common.{◌≡◌, ℕ, zero, suc, ◌+◌, ◌<◌, ◌≤◌, ◌==◌, Bool, true, false, cond, List, [], ◌∷◌, length, get_or, take, drop, sym, refl, ap, ◌∙◌, arith, drop-cons, add-one, add-zero, drop-drop, eqb-true}, proofs.Math.Seq.drop-length}
use Rattle.net_core.{proofs.Library.{prefix_len-le-length, false≢true}, specs.Terms.is_space}
use Rattle.snd_tokens.specs.Terms.{line_length, text_from}
use Rattle.tree_reader.specs.CommentTexts.{Comments, CommentAt, OtherAt, NoneAt, comment_text, comments_from, comments_past}

-- what is skipped is as good as not there
pub past_skip : (whole : List ℕ) (n at : ℕ) (bytes : List ℕ) → n ≤ length bytes → comments_past whole n at bytes ≡ comments_past whole 0 (at + n) (drop n bytes)
past_skip whole zero at [] h = rw (add-zero) refl
past_skip whole zero at (b ∷ bytes) h = rw (add-zero) refl
past_skip whole (suc n) at [] h = absurd (omega (arith, h))
past_skip whole (suc n) at (b ∷ bytes) h =
    let e : at + 1 + n ≡ at + suc n = omega arith in
    past_skip whole n (at + 1) bytes (omega (arith, h)) ∙ ap (λ p. comments_past whole 0 p (drop n bytes)) e

drop_at : (at : ℕ) (bytes : List ℕ) → at < length bytes → drop at bytes ≡ get_or bytes at 0 ∷ drop (at + 1) bytes
drop_at at bytes h = rw (add-one) (drop-cons bytes at 0 h)

-- a space and a `#` differ
hash_apart : (b : ℕ) → is_space b ≡ true → (b == 35) ≡ false
hash_apart b s =
    elim (b == 35) as (λ v. (b == 35) ≡ v → v ≡ false) [
      | true ↦ λ e. absurd (false≢true (ap is_space (sym (eqb-true b 35 e)) ∙ s))
      | false ↦ λ e. refl
    ] refl

-- white space begins nothing
pub comments_space : (at : ℕ) (bytes : List ℕ) → at < length bytes → is_space (get_or bytes at 0) ≡ true → comments_from at bytes ≡ comments_from (at + 1) bytes
unfolding comments_from
comments_space at bytes h s =
    let b = get_or bytes at 0 in
    ap (comments_past bytes 0 at) (drop_at at bytes h)
    ∙ (ap (λ (v : Bool). cond v (CommentAt (comment_text bytes (at + 1) (drop (at + 1) bytes)) (comments_past bytes (line_length (drop (at + 1) bytes)) (at + 1) (drop (at + 1) bytes))) (cond (is_space b) (comments_past bytes 0 (at + 1) (drop (at + 1) bytes)) (OtherAt at))) (hash_apart b s)
    ∙ ap (λ (v : Bool). cond v (comments_past bytes 0 (at + 1) (drop (at + 1) bytes)) (OtherAt at)) s)

-- a comment, and what comes after it
pub comments_hash : (at : ℕ) (bytes : List ℕ) → at < length bytes → (get_or bytes at 0 == 35) ≡ true
    → comments_from at bytes ≡ CommentAt (text_from (at + 1) (take (at + 1 + line_length (drop (at + 1) bytes)) bytes)) (comments_from (at + 1 + line_length (drop (at + 1) bytes)) bytes)
unfolding comments_from
comments_hash at bytes h s =
    let b = get_or bytes at 0 in
    let rest = drop (at + 1) bytes in
    let n = line_length rest in
    let text = comment_text bytes (at + 1) rest in
    let few : n ≤ length rest = prefix_len-le-length _ rest in
    ap (comments_past bytes 0 at) (drop_at at bytes h)
    ∙ (ap (λ (v : Bool). cond v (CommentAt text (comments_past bytes n (at + 1) rest)) (cond (is_space b) (comments_past bytes 0 (at + 1) rest) (OtherAt at))) s
    ∙ ap (λ (c : Comments). CommentAt text c) (past_skip bytes n (at + 1) rest few ∙ ap (comments_past bytes 0 (at + 1 + n)) (drop-drop n (at + 1) bytes)))

-- anything else
pub comments_other : (at : ℕ) (bytes : List ℕ) → at < length bytes → (get_or bytes at 0 == 35) ≡ false → is_space (get_or bytes at 0) ≡ false → comments_from at bytes ≡ OtherAt at
unfolding comments_from
comments_other at bytes h s t =
    let b = get_or bytes at 0 in
    let rest = drop (at + 1) bytes in
    ap (comments_past bytes 0 at) (drop_at at bytes h)
    ∙ (ap (λ (v : Bool). cond v (CommentAt (comment_text bytes (at + 1) rest) (comments_past bytes (line_length rest) (at + 1) rest)) (cond (is_space b) (comments_past bytes 0 (at + 1) rest) (OtherAt at))) s
    ∙ ap (λ (v : Bool). cond v (comments_past bytes 0 (at + 1) rest) (OtherAt at)) t)

-- the end
pub comments_end : (bytes : List ℕ) → comments_from (length bytes) bytes ≡ NoneAt (length bytes)
unfolding comments_from
comments_end bytes = rw (drop-length bytes) refl
