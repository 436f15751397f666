-- whole numbers, each of which has one form
use Rattle.std.specs.Prelude.{ℕ, ◌^◌, ◌==◌, nat_lt, Bool, false, cond, not, ◌||◌, ◌&&◌, List, [], ◌∷◌, Result, Ok, Err, bytes_eq}
use Rattle.snd_tokens.{specs.declared.whole_number.WholeFault.WholeFault, specs.declared.whole_number.WholeFault.TheVariants.{NotANumber, TooLarge}, specs.Digits.{are_digits, number_of}}

-- the first byte is `0`
abbrev pub begins_with_zero : List ℕ → Bool
begins_with_zero [] = false
begins_with_zero (b ∷ bytes) = b == 48

-- `0`, or digits that begin with another digit
abbrev pub is_whole : List ℕ → Bool
is_whole word = bytes_eq word (48 ∷ []) || (are_digits word && not (begins_with_zero word))

-- the value of a whole number's word below a limit, or its fault
abbrev pub whole_below : ℕ → List ℕ → Result ℕ WholeFault
whole_below limit word =
    cond (not (is_whole word)) (Err NotANumber)
    (cond (nat_lt (number_of word) limit) (Ok (number_of word)) (Err TooLarge))

-- the value of a whole number's word, or its fault
unfoldable pub whole_of : List ℕ → Result ℕ WholeFault
whole_of word = whole_below (2 ^ 126) word
