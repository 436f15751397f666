-- what comments change
use Rattle.std.specs.Prelude.{ℕ, List, [], ◌∷◌, ◌++◌, All, flat_map}
use Rattle.text_kit.specs.Terms.{IsFileOf, Item}
use Rattle.report_comments.specs.Comments.{IsOneLine, commented}

-- A file of items whose last byte ends a line is a file of these items with comments after it, too.
abbrev pub CommentsAreNoItems : Type 0
CommentsAreNoItems = (header : List ℕ) (items : List Item) (front : List ℕ) (comments : List (List ℕ))
    → All IsOneLine comments
    → IsFileOf header items (front ++ 10 ∷ [])
    → IsFileOf header items ((front ++ 10 ∷ []) ++ flat_map commented comments)
