-- decimal numbers with a fixed number of places after the point that count, as amounts are
use Rattle.std.{specs.Prelude.{◌≡◌, ℕ, IsTrue, ◌+◌, ◌*◌, ◌^◌, ◌==◌, nat_lt, Bool, cond, not, ◌||◌, ◌&&◌, List, ◌++◌, take, drop, replicate, Result, Ok, Err}, specs.List.{list_all, list_any, before_first, after_first}}
use Rattle.net_core.{specs.declared.places.Places.Places, specs.Terms.digits_after_point}
use Rattle.snd_tokens.{specs.declared.amounts.NumberFault.NumberFault, specs.declared.amounts.NumberFault.TheVariants.{NotANumber, TooFine, TooLarge}, specs.Digits.{is_digit, are_digits, number_of}}

-- the byte `.`
abbrev pub is_point : ℕ → Bool
is_point b = b == 46

-- what is before the first point, or all
abbrev pub whole_part : List ℕ → List ℕ
whole_part word = before_first is_point word

-- what is after the first point, or nothing
abbrev pub places_of : List ℕ → List ℕ
places_of word = after_first is_point word

-- one or more digits, or one or more digits, a point, and one or more digits
abbrev pub is_decimal : List ℕ → Bool
is_decimal word =
    are_digits (whole_part word) && (not (list_any is_point word) || are_digits (places_of word))

-- the digits before a word's point and those after it
pub record AreParts (word whole places : List ℕ) : Type 0 where
  pub before : whole ≡ whole_part word
  pub after : places ≡ places_of word
  pub whole_digits : IsTrue (list_all is_digit whole)
  pub places_digits : IsTrue (list_all is_digit places)

-- the first n places after the point, filled up with zeros
abbrev pub first_places : ℕ → List ℕ → List ℕ
first_places n places = take n (places ++ replicate n 48)

-- a word's value in units of which 10 ^ n make one, if the places past the n-th are zeros
abbrev pub units : ℕ → List ℕ → ℕ
units n word = 10 ^ n * number_of (whole_part word) + number_of (first_places n (places_of word))

-- the places past the n-th are zeros
abbrev pub is_coarse : ℕ → List ℕ → Bool
is_coarse n word = list_all (λ b. b == 48) (drop n (places_of word))

-- a word's value in units of which 10 ^ n make one, if it is below a limit, or its fault
abbrev pub decimal_below : ℕ → ℕ → List ℕ → Result ℕ NumberFault
decimal_below n limit word =
    cond (not (is_decimal word)) (Err NotANumber)
    (cond (not (is_coarse n word)) (Err TooFine)
    (cond (nat_lt (units n word) limit) (Ok (units n word)) (Err TooLarge)))

-- the value of an amount's word in units of a network with these places, or its fault
unfoldable pub amount_of : Places → List ℕ → Result ℕ NumberFault
amount_of p word = decimal_below (digits_after_point p) (2 ^ 40) word

-- the value of money's word in units of the network, or its fault
unfoldable pub money_of : Places → List ℕ → Result ℕ NumberFault
money_of p word = decimal_below (digits_after_point p) (2 ^ 126) word

-- the whole number that a unit's word writes, below 2^40 units of the network, or its fault
unfoldable pub units_of : Places → List ℕ → Result ℕ NumberFault
units_of p word =
    cond (not (is_decimal word)) (Err NotANumber)
    (cond (not (is_coarse 0 word)) (Err TooFine)
    (cond (nat_lt (10 ^ digits_after_point p * number_of (whole_part word)) (2 ^ 40)) (Ok (number_of (whole_part word))) (Err TooLarge)))
