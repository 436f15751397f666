-- what a caller's turn does
use Rattle.std.{specs.Prelude.{◌≡◌, ℕ, ◌-◌, ◌++◌, List, [], length, IfOk, Option, None, Some}, specs.List.range_with_len, specs.declared.result.Result.Result}
use Rattle.plan_terms.specs.Terms.{Edit, Entry, NoMemory}
use Rattle.metric_cut.specs.declared.cut.Cut.{Cut}
use Rattle.cut_pool.{specs.declared.answers.AdmitAnswer.AdmitAnswer, specs.declared.answers.EditAnswer.EditAnswer, specs.declared.board.Board.Board, specs.declared.snapshot.Snapshot.Snapshot, specs.Terms.{AnswersAdmit, AnswersEdit, IsSnapshotOf, origin_of}}
use Rattle.turn_lock.{specs.declared.chronicle.Chronicle.Ghosts, specs.declared.desk.Desk.Desk, specs.declared.desk.Pass.Pass, specs.Terms.{IsPrefix, IsPassOf, Seen, opening_of, own_places, own_units, seen_of}}
use Rattle.board_desk.specs.declared.caller.Caller.{Caller}

module _ {T I O : Type 0} {g : Ghosts T I O} where
  -- there is a pass, and it is one of the desk's
  abbrev pub IsPassThere : Desk T I O → Option (Pass T I O g) → Type 0
  IsPassThere d None = ⊥
  IsPassThere d (Some p) = IsPassOf d p

  -- what a pass has seen, the places of its own items, and its units; nothing where there is no pass
  abbrev pub seen_in : Option (Pass T I O g) → Seen I
  seen_in None = record { history = []; own = [] }
  seen_in (Some p) = seen_of p

  abbrev pub places_in : Option (Pass T I O g) → List ℕ
  places_in None = []
  places_in (Some p) = own_places p

  abbrev pub units_in : Option (Pass T I O g) → ℕ
  units_in None = 0
  units_in (Some p) = own_units p

-- the board that the caller's desk was made with
abbrev pub board_made : Caller → Board
board_made c = opening_of c.desk.now

-- what the caller has seen, with its own entries; the places of these; and its units
abbrev pub caller_seen : Caller → Seen Entry
caller_seen c = seen_in c.pass

abbrev pub caller_places : Caller → List ℕ
caller_places c = places_in c.pass

abbrev pub caller_units : Caller → ℕ
caller_units c = units_in c.pass

-- the caller has a pass of its desk
abbrev pub IsAtDesk : Caller → Type 0
IsAtDesk c = IsPassThere c.desk.now c.pass

-- two callers are at one desk
abbrev pub AreAtOneDesk : Caller → Caller → Type 0
AreAtOneDesk a b = (a.desk.now ≡ b.desk.now) × IsAtDesk a × IsAtDesk b

-- a caller at a desk, which keeps its number and its units
pub record IsSameCaller (old new : Caller) : Type 0 where
  pub own : IsAtDesk new
  pub desk : new.desk.now ≡ old.desk.now
  pub number : new.number ≡ old.number
  pub units : caller_units new ≡ caller_units old

-- A caller has a turn, in which it finds a board and leaves one. What it finds has the network, the states and the opening demands of
-- the desk's first board, and begins with all that the caller has seen. What the board grows by is the caller's own.
pub record HasTurn (old : Caller) (found left : Board) (new : Caller) : Type 0 where
  pub begins : IsPrefix (caller_seen old).history found.entries
  pub origin : origin_of found ≡ origin_of (board_made old)
  pub seen : (caller_seen new).history ≡ left.entries
  pub places : caller_places new ≡ caller_places old ++ range_with_len (length found.entries) (length left.entries - length found.entries)

-- the caller makes an edit in a turn, and the board answers it
abbrev pub EditsInTurn : Caller → Edit → EditAnswer → Caller → Type 0
EditsInTurn old edit answer new = (found : Board) × (left : Board) × AnswersEdit found old.number edit answer left × HasTurn old found left new

-- the caller admits a cut in a turn, and the board answers it
abbrev pub AdmitsInTurn : Caller → Cut → AdmitAnswer → Caller → Type 0
AdmitsInTurn old cut answer new = (found : Board) × (left : Board) × AnswersAdmit found cut answer left × HasTurn old found left new

-- the caller takes a snapshot in a turn, which leaves the board as it was
abbrev pub LooksInTurn : Caller → Result Snapshot NoMemory → Caller → Type 0
LooksInTurn old answer new = (found : Board) × IfOk answer (IsSnapshotOf found) × HasTurn old found found new
