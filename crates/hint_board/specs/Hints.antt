-- What contracts say of boards of hints and of their hints.
use Rattle.std.specs.Prelude.{ℕ, List}
use Rattle.boxcar.specs.Table.{Shows}
use Rattle.hint_board.{specs.declared.board.Hint.Hint, specs.declared.board.HintBoard.HintBoard}

-- how many lengths each vector of a board has
abbrev pub hint_links : HintBoard → ℕ
hint_links b = b.links

-- the hint is one of the board's
abbrev pub IsHintOf : HintBoard → Hint → Type 0
IsHintOf b h = Shows b.vectors h.place

-- the lengths that were posted, and their index on the board
abbrev pub posted_lengths : Hint → List ℕ
posted_lengths h = h.place.value

abbrev pub index_of_hint : Hint → ℕ
index_of_hint h = h.place.index
