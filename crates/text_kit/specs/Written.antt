-- the text of items, as it is written
use Rattle.std.{specs.Prelude.{◌≡◌, ℕ, ◌+◌, ◌/◌, ◌%◌, ◌<◌, ◌≤◌, ◌^◌, zero, suc, true, List, [], ◌∷◌, ◌++◌, length, decimal}, specs.List.AllByRecursion}
use Rattle.net_core.{specs.declared.places.Places.Places, specs.Terms.{IsName, is_plain, digits_after_point}}
use Rattle.text_kit.specs.Items.{Item, Verbatim, Whole, Money, Opening, Closing}

-- the last digit of a number
abbrev pub last_digit : ℕ → ℕ
last_digit n = 48 + n % 10

-- the last digits of a number, k of them, with zeros in front where it has fewer
abbrev pub last_digits : ℕ → ℕ → List ℕ
last_digits zero n = []
last_digits (suc k) n = last_digit (n / 10 ^ k) ∷ last_digits k n

-- units of a network with these places: the whole part, a point, and the digits after it
abbrev pub money_word : Places → ℕ → List ℕ
money_word p n = decimal (n / 10 ^ digits_after_point p) ++ 46 ∷ last_digits (digits_after_point p) n

-- the word of an item
abbrev pub word_of : Item → List ℕ
word_of (Verbatim w) = w
word_of (Whole n) = decimal n
word_of (Money p n) = money_word p n
word_of Opening = 40 ∷ []
word_of Closing = 41 ∷ []

-- a line ends after a closing parenthesis, and a space is after all else
abbrev pub byte_after : Item → ℕ
byte_after Closing = 10
byte_after _ = 32

-- all items, one after another
abbrev pub written : List Item → List ℕ
written [] = []
written (i ∷ is) = word_of i ++ byte_after i ∷ written is

-- a name is a word, and a number isn't too large
abbrev pub IsWritable : Item → Type 0
IsWritable (Verbatim w) = (1 ≤ length w) × (is_plain w ≡ true)
IsWritable (Whole n) = n < 2 ^ 126
IsWritable (Money p n) = n < 2 ^ 126
IsWritable Opening = Unit {0}
IsWritable Closing = Unit {0}

-- a word of at most 255 bytes, or a number that isn't too large
abbrev pub IsShortItem : Item → Type 0
IsShortItem (Verbatim w) = IsName w
IsShortItem (Whole n) = n < 2 ^ 126
IsShortItem (Money p n) = n < 2 ^ 126
IsShortItem Opening = Unit {0}
IsShortItem Closing = Unit {0}

-- these items were written after the text that was there, each of them short
pub record AddsItems (old : List ℕ) (items : List Item) (new : List ℕ) : Type 0 where
  pub text : new ≡ old ++ written items
  pub each : AllByRecursion IsShortItem items

-- a text of this kind was put after what was there
abbrev pub AddsText : (List ℕ → Type 0) → List ℕ → List ℕ → Type 0
AddsText IsText old new = (text : List ℕ) × IsText text × (new ≡ old ++ text)
