use denote.Param.Send.{sendable}
use Rattle.net_core.proofs.Library.{crosses, send}
use Rattle.board_desk.proofs.Sent.{caller_send}
use Rattle.board_tests.proofs.callers.+edit_by+fn-edit_by-join+arg2+fn-edit_by-join+arg3.Goals as goal

pub join-one-requires-send-F : goal.join-one-requires-send-F
join-one-requires-send-F g t c κs within = search (sendable, crosses, send, caller_send) depth 20

pub join-one-requires-send-A : goal.join-one-requires-send-A
join-one-requires-send-A g t c κs within = search (sendable, caller_send) depth 20
