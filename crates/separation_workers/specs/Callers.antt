-- what a caller has seen at its desk
use Rattle.board_desk.{specs.declared.caller.Caller.Caller, specs.Turns.{IsSameCaller, board_made, caller_seen, caller_units}}
use Rattle.separator.specs.Separators.{Frame, IsSeenHistory, SeesMore}
use Rattle.separation_workers.specs.declared.workers.DeskMark.{DeskMark}

-- the caller has seen a history of the network and the states of its desk, and its own entries are in that history
abbrev pub HasSeenHistory : Caller → Type 0
HasSeenHistory c = ∥ IsSeenHistory (board_made c).net.now (board_made c).states.now (caller_seen c) ∥₁

-- the caller is the same, has seen a history that continues what it had seen, and has committed nothing but cuts
pub record SeesOn (old new : Caller) : Type 0 where
  pub same : IsSameCaller old new
  pub seen : HasSeenHistory new
  pub more : SeesMore (caller_seen old) (caller_seen new)

-- what no call of a separator changes of its caller: the network and the states of the desk, the desk, its number, and its units
abbrev pub caller_frame : Caller → Frame DeskMark
caller_frame c = record {
  network = (board_made c).net.now;
  states = (board_made c).states.now;
  mark = record { desk = c.desk.now; number = c.number; units = caller_units c };
}
