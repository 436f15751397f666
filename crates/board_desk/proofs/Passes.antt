-- a caller's pass, and what it has seen
use Rattle.std.proofs.Common.{◌≡◌, List, Option, None, Some, length, refl, subst, true}
use Rattle.plan_terms.specs.Terms.{Demand, Entry, Network, States}
use Rattle.cut_pool.{specs.contracts.board.BoardChronicle.TheImpl.ghosts, specs.declared.board.Board.Board}
use Rattle.turn_lock.{specs.declared.desk.Desk.Desk, specs.declared.desk.Pass.Pass, specs.declared.desk.Turn.Turn, specs.Terms.{are_places, IsPassOf, items_at}}
use Rattle.board_desk.specs.Turns.{IsPassThere, places_in, seen_in}

-- a desk with a board, a pass of one, and a turn at one
abbrev pub BoardDesk : Type 0
BoardDesk = Desk Board Entry (Network × States × List Demand)

abbrev pub BoardPass : Type 0
BoardPass = Pass Board Entry (Network × States × List Demand) ghosts

abbrev pub BoardTurn : Type 0
BoardTurn = Turn Board Entry (Network × States × List Demand)

-- a pass that is there is one of the desk's
module _ (desk : BoardDesk) (found : Option BoardPass) (there : IsPassThere desk found) where
  pub no_pass : found ≡ None → ⊥
  no_pass is = subst (IsPassThere desk) is there

  pub some_pass : (pass : BoardPass) → found ≡ Some pass → IsPassOf desk pass
  some_pass pass is = subst (IsPassThere desk) is there

-- its own items are those at its places, which are places of the history
pub own_at : (p : Option BoardPass) → (seen_in p).own ≡ items_at (seen_in p).history (places_in p)
own_at None = refl
own_at (Some p) = refl

pub placed_in : (p : Option BoardPass) → are_places 0 (length (seen_in p).history) (places_in p) ≡ true
placed_in None = refl
placed_in (Some p) = p.placed
