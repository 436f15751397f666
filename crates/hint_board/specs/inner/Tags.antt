-- the rule of the vectors on a board, whose tag has the number of links
use Rattle.std.specs.Prelude.{ℕ, List, slice_index}
use Rattle.hint_board.specs.Priced.{AreHintLengths}

-- the lengths are priced, and as many as the tag's first number says
abbrev pub ArePricedByTag : List ℕ → List ℕ → Type 0
ArePricedByTag tag lengths = AreHintLengths (slice_index tag 0) lengths
