-- What comes next in bytes, and in all bytes that agree with them past it.
use Rattle.std.{proofs.Common.{◌≡◌, ℕ, zero, suc, ◌+◌, ◌-◌, ◌<◌, ◌≤◌, ◌==◌, min, Bool, true, false, cond, not, List, [], ◌∷◌, length, get_or, take, drop, refl, sym, ap, subst, ◌∙◌, arith, length-drop, take_all}, proofs.lemmas.List.{drop-take, get_or-take, length-take}}
use Rattle.net_core.{proofs.Library.{prefix_len, prefix_len-le-length}, specs.Terms.is_space}
use Rattle.snd_tokens.specs.Terms.{Text, line_length, text_from}
use Rattle.text_kit.{specs.Places.place, proofs.Lemmas.{run_same, take_less, Rises, past, rises_past, file_rises}}
use Rattle.tree_reader.{specs.CommentTexts.{Comments, CommentAt, OtherAt, NoneAt, comments_from}, proofs.Scanning.{comments_end, comments_hash, comments_other, comments_space}}

-- ---- lists that agree

pub byte_same : (xs ys : List ℕ) (n i : ℕ) → i < n → take n xs ≡ take n ys → get_or xs i 0 ≡ get_or ys i 0
byte_same xs ys n i lt same = sym (get_or-take n xs i 0 lt) ∙ (ap (λ (l : List ℕ). get_or l i 0) same ∙ get_or-take n ys i 0 lt)

drops_same : (xs ys : List ℕ) (k n : ℕ) → k ≤ n → take n xs ≡ take n ys → take (n - k) (drop k xs) ≡ take (n - k) (drop k ys)
drops_same xs ys k n le same =
    let total : n ≡ k + (n - k) = omega (arith, le) in
    let parts : (zs : List ℕ) → drop k (take n zs) ≡ take (n - k) (drop k zs) = λ zs. ap (λ i. drop k (take i zs)) total ∙ drop-take k (n - k) zs in
    sym (parts xs) ∙ (ap (drop k) same ∙ parts ys)

-- bytes that agree past the end are the same
pub all_same : (xs ys : List ℕ) (n : ℕ) → length xs < n → take n xs ≡ take n ys → ys ≡ xs
all_same xs ys n lt same =
    let whole : take n xs ≡ xs = take_all n xs (omega (arith, lt)) in
    let size : min n (length ys) ≡ length xs = sym (length-take n ys) ∙ (ap length (sym same) ∙ ap length whole) in
    sym (take_all n ys (omega (arith, size, lt))) ∙ (sym same ∙ whole)

-- a run is no shorter in more bytes
pub run_take : (p : ℕ → Bool) (m : ℕ) (xs : List ℕ) → prefix_len p (take m xs) ≤ prefix_len p xs
run_take p zero xs = omega arith
run_take p (suc m) [] = omega arith
run_take p (suc m) (x ∷ xs) =
    elim (p x) as (λ v. cond v (1 + prefix_len p (take m xs)) 0 ≤ cond v (1 + prefix_len p xs) 0) [
      | true ↦ omega (arith, run_take p m xs)
      | false ↦ omega arith
    ]

-- ---- comment lines

-- the place where the line ends whose `#` is at a place
abbrev pub line_end : ℕ → List ℕ → ℕ
line_end p bytes = p + 1 + line_length (drop (p + 1) bytes)

-- its words
abbrev pub line_text : ℕ → List ℕ → Text
line_text p bytes = text_from (p + 1) (take (line_end p bytes) bytes)

-- this line, and what comes after it
abbrev pub comment_at : ℕ → List ℕ → Comments
comment_at p bytes = CommentAt (line_text p bytes) (comments_from (line_end p bytes) bytes)

pub end_within : (p : ℕ) (bytes : List ℕ) → p < length bytes → line_end p bytes ≤ length bytes
end_within p bytes lt =
    let few : line_length (drop (p + 1) bytes) ≤ length (drop (p + 1) bytes) = prefix_len-le-length (λ b. not (b == 10)) (drop (p + 1) bytes) in
    omega (arith, few, length-drop (p + 1) bytes, lt)

pub end_same : (xs ys : List ℕ) (p n : ℕ) → take n xs ≡ take n ys → line_end p xs < n → line_end p ys ≡ line_end p xs
end_same xs ys p n same lt =
    let runs : line_length (drop (p + 1) ys) ≡ line_length (drop (p + 1) xs) =
    run_same (λ c. not (c == 10)) (n - (p + 1)) (drop (p + 1) xs) (drop (p + 1) ys) (omega (arith, lt)) (drops_same xs ys (p + 1) n (omega (arith, lt)) same) in
    ap (λ k. p + 1 + k) runs

pub text_same : (xs ys : List ℕ) (p n : ℕ) → take n xs ≡ take n ys → line_end p xs < n → line_text p ys ≡ line_text p xs
text_same xs ys p n same lt =
    ap (λ (k : ℕ). text_from (p + 1) (take k ys)) (end_same xs ys p n same lt)
    ∙ ap (λ (l : List ℕ). text_from (p + 1) l) (sym (take_less (line_end p xs) n xs ys (omega (arith, lt)) same))

-- the words of a line are in the order of their places, behind its `#`
pub line_rises : (p : ℕ) (bytes : List ℕ) → p < length bytes → Rises (line_text p bytes)
line_rises p bytes lt = (file_rises (p + 1) (take (line_end p bytes) bytes) (omega (arith, length-take (line_end p bytes) bytes, lt))).0

pub line_after : (p : ℕ) (bytes : List ℕ) (c : ℕ) → p < length bytes → p + 1 ≤ place (past c (line_text p bytes))
line_after p bytes c lt =
    let r = file_rises (p + 1) (take (line_end p bytes) bytes) (omega (arith, length-take (line_end p bytes) bytes, lt)) in
    omega (arith, r.1, rises_past c (line_text p bytes) r.0)

-- ---- what comes next

-- a comment, something else, or nothing; all bytes that agree past its first byte have the same
pub data Next (bytes : List ℕ) (from : ℕ) : Type 0 where
  Line : (p : ℕ) → from ≤ p → p < length bytes → ((other : List ℕ) → p < length other → take (p + 1) bytes ≡ take (p + 1) other → comments_from from other ≡ comment_at p other) → Next bytes from
  Else : (p : ℕ) → from ≤ p → p < length bytes → ((other : List ℕ) → p < length other → take (p + 1) bytes ≡ take (p + 1) other → comments_from from other ≡ OtherAt p) → Next bytes from
  Done : comments_from from bytes ≡ NoneAt (length bytes) → Next bytes from

past_space : (bytes : List ℕ) (from : ℕ) → from < length bytes → is_space (get_or bytes from 0) ≡ true → Next bytes (from + 1) → Next bytes from
past_space bytes from lt s (Line p le within to) = Line p (omega (arith, le)) within
    (λ other less same. comments_space from other (omega (arith, le, less)) (ap is_space (sym (byte_same bytes other (p + 1) from (omega (arith, le)) same)) ∙ s) ∙ to other less same)
past_space bytes from lt s (Else p le within to) = Else p (omega (arith, le)) within
    (λ other less same. comments_space from other (omega (arith, le, less)) (ap is_space (sym (byte_same bytes other (p + 1) from (omega (arith, le)) same)) ∙ s) ∙ to other less same)
past_space bytes from lt s (Done e) = Done (comments_space from bytes lt s ∙ e)

next_by : (bytes : List ℕ) (k from : ℕ) → from + k ≡ length bytes → Next bytes from
next_by bytes zero from e =
    let last : length bytes ≡ from = omega (arith, e) in
    Done (subst (λ (i : ℕ). comments_from i bytes ≡ NoneAt (length bytes)) last (comments_end bytes))
next_by bytes (suc k) from e =
    let lt : from < length bytes = omega (arith, e) in
    elim (is_space (get_or bytes from 0)) as (λ v. is_space (get_or bytes from 0) ≡ v → Next bytes from) [
      | true ↦ λ s. past_space bytes from lt s (next_by bytes k (from + 1) (omega (arith, e)))
      | false ↦ λ s. elim (get_or bytes from 0 == 35) as (λ v. (get_or bytes from 0 == 35) ≡ v → Next bytes from) [
        | true ↦ λ h. Line from (omega arith) lt
            (λ other less same. comments_hash from other less (ap (λ (b : ℕ). b == 35) (sym (byte_same bytes other (from + 1) from (omega arith) same)) ∙ h))
        | false ↦ λ h. Else from (omega arith) lt
            (λ other less same. comments_other from other less (ap (λ (b : ℕ). b == 35) (sym (byte_same bytes other (from + 1) from (omega arith) same)) ∙ h) (ap is_space (sym (byte_same bytes other (from + 1) from (omega arith) same)) ∙ s))
      ] refl
    ] refl

pub next_of : (bytes : List ℕ) (from : ℕ) → from ≤ length bytes → Next bytes from
next_of bytes from le = next_by bytes (length bytes - from) from (omega (arith, le))
