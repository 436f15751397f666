-- What may go to another thread.
use denote.Ref.{NamedLft}
use denote.RattleType.{RattleType}
use denote.Struct.Declared.{shape}
use denote.Struct.Tuple.{Tuple}
use denote.Param.Send.{IsSend, recorded_send, sendable, shr_send, struct_send}
use Rattle.std.{proofs.Common.{[], ◌∷◌}, specs.contracts.option.Option.{the_field as option_of}}
use Rattle.net_core.proofs.Library.{crosses}
use Rattle.cut_pool.specs.contracts.board.BoardChronicle.TheImpl.{ghosts}
use Rattle.net_core.specs.contracts.demand.Demand as demand
use Rattle.net_core.specs.contracts.journal.Entry as entry
use Rattle.net_core.specs.contracts.list.List as list
use Rattle.net_core.specs.contracts.network.Network as network
use Rattle.net_core.specs.contracts.states.States as states
use Rattle.net_core.proofs.list.List.TheSendSync as lists
use Rattle.net_core.proofs.network.Network.TheSendSync as networks
use Rattle.net_core.proofs.states.States.TheSendSync as all_states
use Rattle.turn_lock.proofs.desk.Desk.TheSendSync as desks
use Rattle.turn_lock.proofs.desk.Pass.TheSendSync as passes
use Rattle.cut_pool.proofs.pooled_cut.PooledCut.TheSendSync as pools
use Rattle.cut_pool.specs.contracts.board.Board as board
use Rattle.cut_pool.specs.contracts.entries.Told as told
use Rattle.board_desk.specs.contracts.caller.Caller as caller

-- the origin of a board, as a type of the language
abbrev origin : RattleType
origin = Tuple (network.the_row ∷ states.the_row ∷ list.the_row demand.the_row ∷ [])

-- the entries that a board tells have no bytes, and may go to any thread
told_send : IsSend told.the_row
told_send = search (sendable, crosses) depth 20

-- a board may go to another thread
pub board_send : (κ : NamedLft) → IsSend (board.the_row κ)
board_send κ = search (sendable, crosses, lists.the_send, networks.the_sync, all_states.the_sync, told_send, pools.the_send) depth 30 fits 20000

option_send : (R : RattleType) → IsSend R → IsSend (option_of R).row
option_send R s = search sendable depth 12

-- a caller may go to another thread
pub caller_send : (κ ν : NamedLft) → IsSend (caller.the_row κ ν)
caller_send κ ν =
    let to_desk = desks.the_sync (board.the_row ν) entry.the_row origin ghosts (board_send ν) in
    let pass = passes.the_send (board.the_row ν) entry.the_row origin ghosts (board_send ν) in
    recorded_send _ _ _ (caller.the_type κ ν).to_one (struct_send (shape (caller.the_type κ ν)) (search sendable, (shr_send _ _ _ to_desk, (option_send _ pass, tt))))
