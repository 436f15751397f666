-- the comment lines of a text from a place on, each with the words after its `#`
use Rattle.std.specs.Prelude.{◌≡◌, ℕ, zero, suc, ◌+◌, ◌==◌, ◌≤◌, if◌then◌else◌, List, [], ◌∷◌, length, take, drop}
use Rattle.net_core.specs.Terms.{is_space}
use Rattle.snd_tokens.specs.Terms.{Text, left, line_length, text_from}
use Rattle.text_kit.specs.Terms.{Item, IsMadeOf}
use Rattle.tree_reader.specs.declared.lines.NextLine.{NextLine}
use Rattle.tree_reader.specs.declared.lines.NextLine.TheVariants as next

-- comments one after another, up to the end or to something else, with its place
pub data Comments : Type 0 where
  CommentAt : Text → Comments → Comments
  OtherAt : ℕ → Comments
  NoneAt : ℕ → Comments

-- the words of the comment whose `#` is right before a place, where `bytes` are the bytes from there on
abbrev pub comment_text : List ℕ → ℕ → List ℕ → Text
comment_text whole at bytes = text_from at (take (at + line_length bytes) whole)

-- the comments in bytes of which the first is at a place, where the first `skip` of them belong to the comment before
abbrev pub comments_past : List ℕ → ℕ → ℕ → List ℕ → Comments
comments_past whole skip at [] = NoneAt at
comments_past whole zero at (b ∷ bytes) =
    if b == 35 then CommentAt (comment_text whole (at + 1) bytes) (comments_past whole (line_length bytes) (at + 1) bytes)
    else (if is_space b then comments_past whole 0 (at + 1) bytes else OtherAt at)
comments_past whole (suc skip) at (b ∷ bytes) = comments_past whole skip (at + 1) bytes

-- the comments of a text from a place on
unfoldable pub comments_from : ℕ → List ℕ → Comments
comments_from from bytes = comments_past bytes 0 from (drop from bytes)

-- what comes next among the comments, which go on at a place after it
abbrev pub IsNextLine : List ℕ → NextLine → Comments → Type 0
IsNextLine bytes (next.Comment text end) comments = (comments ≡ CommentAt (left text) (comments_from end bytes)) × (end ≤ length bytes)
IsNextLine bytes (next.Other at) comments = comments ≡ OtherAt at
IsNextLine bytes (next.End at) comments = comments ≡ NoneAt at

-- there is a comment for each of these lists of items, made of them, and nothing else
abbrev pub AreCommentsOf : List (List Item) → Comments → Type 0
AreCommentsOf [] (NoneAt at) = Unit {0}
AreCommentsOf (items ∷ lines) (CommentAt text comments) = IsMadeOf items text × AreCommentsOf lines comments
AreCommentsOf lines comments = ⊥
