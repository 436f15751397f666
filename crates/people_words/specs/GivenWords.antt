-- what the words of a command give: names in their order, and options in any place between them
use Rattle.std.{specs.Prelude.{◌≡◌, ◌⊎◌, ℕ, ◌+◌, ◌==◌, ◌&&◌, ◌||◌, not, Bool, true, false, cond, List, [], ◌∷◌, Option, None, Some, codes, length, nat_le, slice_index}, specs.Str.bytes_eq}
use Rattle.people_words.{specs.declared.kinds.WordKind.WordKind, specs.declared.kinds.WordKind.TheVariants.{Name, End, Flag, Valued, Unknown}}

-- ---- words

-- a word that begins like no option: a minus alone, or one that doesn't begin with a minus
abbrev pub is_plain_word : List ℕ → Bool
is_plain_word word = nat_le (length word) 1 || not (slice_index word 0 == 45)

-- the options that have no value
abbrev pub is_flag : List ℕ → Bool
is_flag word = bytes_eq word (codes "--report") || bytes_eq word (codes "--quiet") || bytes_eq word (codes "--svg")

-- the options of which the word after them is the value
abbrev pub is_valued : List ℕ → Bool
is_valued word =
    bytes_eq word (codes "--model") || (bytes_eq word (codes "--failures") || (bytes_eq word (codes "--survive")
    || (bytes_eq word (codes "--splits") || (bytes_eq word (codes "--csv") || bytes_eq word (codes "--state")))))

-- what an option is to the word after it
abbrev pub option_kind : List ℕ → WordKind
option_kind word = cond (is_flag word) Flag (cond (is_valued word) Valued Unknown)

-- what a word is to those after it
abbrev pub word_kind : List ℕ → WordKind
word_kind word = cond (is_plain_word word) Name (cond (bytes_eq word (codes "--")) End (option_kind word))

-- ---- names and options

-- an option that is given, and its value, which is empty where it has none
pub record GivenOption : Type 0 where
  pub name : List ℕ
  pub value : List ℕ

-- Words are read as these names and these options, both in their order, where an option awaits its value or none does. After the first `--` all
-- words are names.
abbrev pub AreRead : Option (List ℕ) → List (List ℕ) → List (List ℕ) → List GivenOption → Type 0
AreRead None [] names options = (names ≡ []) × (options ≡ [])
AreRead None (word ∷ words) names options =
    ((word_kind word ≡ Name) × ((others : List (List ℕ)) × (names ≡ word ∷ others) × AreRead None words others options))
    ⊎ ((word_kind word ≡ End) × (names ≡ words) × (options ≡ []))
    ⊎ ((word_kind word ≡ Flag) × ((others : List GivenOption) × (options ≡ record { name = word; value = [] } ∷ others) × AreRead None words names others))
    ⊎ ((word_kind word ≡ Valued) × AreRead (Some word) words names options)
AreRead (Some option) [] names options = ⊥
AreRead (Some option) (value ∷ words) names options =
    (others : List GivenOption) × (options ≡ record { name = option; value = value } ∷ others) × AreRead None words names others

-- whether a name is among these
abbrev pub is_among : List (List ℕ) → List ℕ → Bool
is_among [] name = false
is_among (word ∷ words) name = bytes_eq word name || is_among words name

-- whether each option that is given is among these
abbrev pub are_among : List (List ℕ) → List GivenOption → Bool
are_among taken [] = true
are_among taken (o ∷ options) = is_among taken o.name && are_among taken options

-- how often an option is given
abbrev pub times_given : List GivenOption → List ℕ → ℕ
times_given [] name = 0
times_given (o ∷ options) name = cond (bytes_eq o.name name) 1 0 + times_given options name

-- whether each of these options is given once at most
abbrev pub are_once : List (List ℕ) → List GivenOption → Bool
are_once [] options = true
are_once (name ∷ names) options = nat_le (times_given options name) 1 && are_once names options

-- each of these options is given once at most, and no other
abbrev pub TakesOptions : List (List ℕ) → List GivenOption → Type 0
TakesOptions taken options = (are_among taken options ≡ true) × (are_once taken options ≡ true)

-- the value that is given to an option, and none where it isn't given
abbrev pub value_given : List GivenOption → List ℕ → Option (List ℕ)
value_given [] name = None
value_given (o ∷ options) name = cond (bytes_eq o.name name) (Some o.value) (value_given options name)
