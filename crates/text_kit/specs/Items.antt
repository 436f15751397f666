-- what a text is made of: parentheses, and words that mean something
use Rattle.std.specs.Prelude.{◌≡◌, ℕ, List, [], ◌∷◌, ◌++◌, Ok}
use Rattle.net_core.specs.declared.places.Places.{Places}
use Rattle.snd_tokens.specs.Terms.{money_of, Text, WordAt, OpenAt, CloseAt, EndAt, whole_of}

-- this very word, a whole number, an amount or money in units of a network with these places, or a parenthesis
pub data Item : Type 0 where
  Verbatim : List ℕ → Item
  Whole : ℕ → Item
  Money : Places → ℕ → Item
  Opening : Item
  Closing : Item

-- the word spells the item
abbrev pub SpellsItem : List ℕ → Item → Type 0
SpellsItem w (Verbatim v) = w ≡ v
SpellsItem w (Whole n) = whole_of w ≡ Ok n
SpellsItem w (Money p n) = money_of p w ≡ Ok n
SpellsItem w _ = ⊥

-- the text begins with these items, one by one, and the rest comes after them
abbrev pub Begins : List Item → Text → Text → Type 0
Begins [] text rest = text ≡ rest
Begins (i ∷ is) (WordAt at w text) rest = SpellsItem w i × Begins is text rest
Begins (i ∷ is) (OpenAt at text) rest = (i ≡ Opening) × Begins is text rest
Begins (i ∷ is) (CloseAt at text) rest = (i ≡ Closing) × Begins is text rest
Begins (i ∷ is) (EndAt at) rest = ⊥

-- the text is these items
abbrev pub IsMadeOf : List Item → Text → Type 0
IsMadeOf is text = (at : ℕ) × Begins is text (EndAt at)

-- each element is so after those before it
abbrev pub ComeAfter : {X : Type 0} → (List X → X → Type 0) → List X → List X → Type 0
ComeAfter is sofar [] = Unit {0}
ComeAfter is sofar (x ∷ xs) = is sofar x × ComeAfter is (sofar ++ x ∷ []) xs

-- elements one after another, each of which items of its own spell
abbrev pub AreSpelled : {X : Type 0} → (X → List Item → Type 0) → List X → List Item → Type 0
AreSpelled Spells [] is = is ≡ []
AreSpelled Spells (x ∷ xs) is = (js ks : List Item) × Spells x js × AreSpelled Spells xs ks × (is ≡ js ++ ks)
