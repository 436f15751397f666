-- what is skipped: lexemes whose parentheses balance
use Rattle.std.specs.Prelude.{◌≡◌, ℕ, ◌+◌, ◌≤◌, List, [], ◌∷◌, ◌++◌, map, take}
use Rattle.snd_tokens.specs.Terms.{Lexeme, Word, Open, Close}
use Rattle.text_kit.specs.Terms.{Item, Verbatim, Opening, Closing}

-- how many parentheses are opened
abbrev pub opened : List Lexeme → ℕ
opened [] = 0
opened (Open ∷ ls) = 1 + opened ls
opened (_ ∷ ls) = opened ls

-- how many parentheses are closed
abbrev pub closed : List Lexeme → ℕ
closed [] = 0
closed (Close ∷ ls) = 1 + closed ls
closed (_ ∷ ls) = closed ls

-- as many are closed as are opened, and no more than that in any prefix
pub record AreBalanced (ls : List Lexeme) : Type 0 where
  pub same : closed ls ≡ opened ls
  pub prefixes : (k : ℕ) → closed (take k ls) ≤ opened (take k ls)

-- the item of a lexeme
abbrev pub item_of : Lexeme → Item
item_of (Word w) = Verbatim w
item_of Open = Opening
item_of Close = Closing

-- anything that balances, up to the parenthesis that closes it
abbrev pub IsSkipped : List Item → Type 0
IsSkipped items = (inside : List Lexeme) × AreBalanced inside × (items ≡ map item_of inside ++ Closing ∷ [])
