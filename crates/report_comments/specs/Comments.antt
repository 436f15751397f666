-- comment lines: a `#`, and words, each after one space
use Rattle.std.{specs.Prelude.{◌≡◌, ℕ, ◌==◌, true, List, [], ◌∷◌, ◌++◌, All, flat_map, not}, specs.List.{AllByRecursion, list_all}}
use Rattle.text_kit.specs.Terms.{Item, word_of}

-- the words of items, each after one space
abbrev pub spaced_items : List Item → List ℕ
spaced_items [] = []
spaced_items (i ∷ is) = 32 ∷ word_of i ++ spaced_items is

-- these bytes in a comment of their own: `#` before them, and the end of the line after them
abbrev pub commented : List ℕ → List ℕ
commented bytes = 35 ∷ bytes ++ 10 ∷ []

-- a comment of these items
abbrev pub comment_line : List Item → List ℕ
comment_line items = commented (spaced_items items)

-- there is no end of a line among the bytes
abbrev pub IsOneLine : List ℕ → Type 0
IsOneLine bytes = list_all (λ b. not (b == 10)) bytes ≡ true

-- no word of an item ends a line
abbrev pub HasOneLine : Item → Type 0
HasOneLine i = IsOneLine (word_of i)

-- these items were put after what was there, each after one space, and none ends a line
pub record AddsSpaced (old : List ℕ) (items : List Item) (new : List ℕ) : Type 0 where
  pub text : new ≡ old ++ spaced_items items
  pub each : AllByRecursion HasOneLine items

-- a comment line for each of these lists of items was put after what was there
pub record AddsLines (old : List ℕ) (lines : List (List Item)) (new : List ℕ) : Type 0 where
  pub text : new ≡ old ++ flat_map comment_line lines
  pub each : All (λ items. IsOneLine (spaced_items items)) lines
