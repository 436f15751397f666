-- callers at a desk with a board
use denote.RattleType.{RattleType}
use denote.Struct.Tuple.{Tuple}
use Rattle.std.{proofs.Common.{◌≡◌, [], ◌∷◌, Option, None, Some, refl}, specs.Coded.{coded_option, ×_prop}}
use Rattle.net_core.proofs.Library.{∥∥₁_elim, Coded-set}
use Rattle.atomic_table.specs.Seated.{table_id_coded}
use Rattle.board_desk.{specs.declared.caller.Caller.Caller, specs.Turns.{IsAtDesk, IsPassThere, IsSameCaller}, proofs.Passes.{BoardDesk, BoardPass}}
use Rattle.separation_workers.specs.Callers.{caller_frame}
use Rattle.net_core.specs.contracts.demand.Demand as demand
use Rattle.net_core.specs.contracts.list.List as list
use Rattle.net_core.specs.contracts.network.Network as network
use Rattle.net_core.specs.contracts.states.States as states

-- the origin of a board, as a type of the language
abbrev origin : RattleType
origin = Tuple (network.the_row ∷ states.the_row ∷ list.the_row demand.the_row ∷ [])

-- that a pass of the desk is there has one proof at most
one_proof : (desk : BoardDesk) (found : Option BoardPass) → IsProp (IsPassThere desk found)
one_proof desk None = λ a b. absurd a
one_proof desk (Some pass) = ×_prop (Coded-set table_id_coded _ _) (Coded-set (coded_option origin.coded) _ _)

pub at_desk : (c : Caller) → ∥ IsAtDesk c ∥₁ → IsAtDesk c
at_desk c own = ∥∥₁_elim own (one_proof c.desk.now c.pass) (λ p. p)

-- the frame of a separator for the caller is as it was
pub same_frame : (old new : Caller) → IsSameCaller old new → caller_frame new ≡ caller_frame old
same_frame old new same = rw (same.desk, same.number, same.units) refl
