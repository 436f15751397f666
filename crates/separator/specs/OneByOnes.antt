-- a separator over a board
use Rattle.std.specs.Prelude.{drop}
use Rattle.plan_terms.specs.Terms.{Entry}
use Rattle.turn_lock.specs.Passes.{Seen}
use Rattle.separator.{specs.declared.one_by_one.Beginning.Beginning, specs.declared.one_by_one.OneByOne.OneByOne, specs.Separators.Frame}

-- no call changes the board's network, its states, its opening demands, and the number of entries that the separator began with
abbrev pub board_frame : OneByOne → Frame Beginning
board_frame s = record { network = s.board.net.now; states = s.board.states.now; mark = record { opening = s.board.opening.value; entries = s.began.value } }

-- it has seen all entries of the board, and its own are those that the board has got since
abbrev pub board_seen : OneByOne → Seen Entry
board_seen s = record { history = s.board.entries; own = drop s.began.value s.board.entries }
