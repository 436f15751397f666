-- what writing and reading keep
use Rattle.std.{specs.Prelude.{◌≡◌, ℕ, List, ◌∷◌, ◌++◌}, specs.List.AllByRecursion}
use Rattle.snd_tokens.specs.Terms.{first_line, trimmed}
use Rattle.text_kit.{specs.Files.IsFileOf, specs.Items.Item, specs.Written.{IsWritable, written}}

-- one line without blanks at its end
pub record IsHeaderLine (line : List ℕ) : Type 0 where
  pub one : first_line line ≡ line
  pub no_blank : trimmed line ≡ line

-- A header's line, and after it the text of items, is a file of these items: so reading what was written gives it back.
abbrev pub WrittenIsRead : Type 0
WrittenIsRead = (header : List ℕ) (items : List Item) → IsHeaderLine header → AllByRecursion IsWritable items
    → IsFileOf header items (header ++ 10 ∷ written items)
