-- a word's parts before and after its point
use Rattle.std.proofs.Common.{◌≡◌, ℕ, ◌+◌, ◌-◌, ◌<◌, Bool, true, false, cond, not, ◌||◌, List, [], ◌∷◌, length, take, drop, IsTrue, sym, refl, ap, ◌∙◌, subst, arith}
use Rattle.net_core.proofs.Library.{list_all, list_any, position_or_len, false≢true, and_parts, and_from, take_rest, drop_all}
use Rattle.snd_tokens.{specs.Digits.{is_digit, are_digits}, specs.Amounts.{AreParts, is_point, is_decimal, whole_part, places_of}}

-- where no element passes, the first that passes is past the end
list_any-none : (p : ℕ → Bool) (xs : List ℕ) → position_or_len p xs ≡ length xs → list_any p xs ≡ false
list_any-none p [] e = refl
list_any-none p (x ∷ xs) e =
    elim (p x) as (λ v. cond (not v) (1 + position_or_len p xs) 0 ≡ length (x ∷ xs) → (v || list_any p xs) ≡ false) [
      | true ↦ λ h. absurd (omega arith)
      | false ↦ λ h. list_any-none p xs (omega arith)
    ] e

list_any-some : (p : ℕ → Bool) (xs : List ℕ) → position_or_len p xs < length xs → list_any p xs ≡ true
list_any-some p [] h = absurd (omega arith)
list_any-some p (x ∷ xs) h =
    elim (p x) as (λ v. cond (not v) (1 + position_or_len p xs) 0 < length (x ∷ xs) → (v || list_any p xs) ≡ true) [
      | true ↦ λ k. refl
      | false ↦ λ k. list_any-some p xs (omega arith)
    ] h

-- one or more digits are digits all
list_all-digits : (bytes : List ℕ) → are_digits bytes ≡ true → list_all is_digit bytes ≡ true
list_all-digits [] h = refl
list_all-digits (b ∷ bytes) h = h

-- a word of digits and no point
pub without_point : (word : List ℕ) (point : ℕ) → point ≡ position_or_len is_point word → point ≡ length word → are_digits (take point word) ≡ true → IsTrue (is_decimal word) × AreParts word (take point word) (take (length word - point) (drop point word))
without_point word point first none whole =
    let no_point : list_any is_point word ≡ false = list_any-none is_point word (sym first ∙ none) in
    let before : are_digits (whole_part word) ≡ true = subst (λ n. are_digits (take n word) ≡ true) first whole in
    let empty : take (length word - point) (drop point word) ≡ [] = take_rest word point ∙ drop_all point word (omega arith) in
    let no_places : places_of word ≡ [] = drop_all (position_or_len is_point word + 1) word (omega arith) in (
      and_from _ _ before (rw no_point refl),
      record {
        before = ap (λ n. take n word) first;
        after = empty ∙ sym no_places;
        whole_digits = list_all-digits (take point word) whole;
        places_digits = rw empty refl;
      },
    )

-- a word with something else than digits after its point
pub bad_places : (word : List ℕ) (point : ℕ) → point ≡ position_or_len is_point word → point < length word → are_digits (take (length word - (point + 1)) (drop (point + 1) word)) ≡ false → IsTrue (is_decimal word) → ⊥
bad_places word point first some places d =
    let following : take (length word - (point + 1)) (drop (point + 1) word) ≡ places_of word = take_rest word (point + 1) ∙ ap (λ n. drop (n + 1) word) first in
    let after : are_digits (places_of word) ≡ false = subst (λ bytes. are_digits bytes ≡ false) following places in
    let a_point : list_any is_point word ≡ true = list_any-some is_point word (omega arith) in
    let second : (not (list_any is_point word) || are_digits (places_of word)) ≡ true = (and_parts (are_digits (whole_part word)) _ d).1 in
    let neither : (not (list_any is_point word) || are_digits (places_of word)) ≡ false = rw (a_point, after) refl in
    false≢true (sym neither ∙ second)
