use denote.Param.Send.{sendable}
use Rattle.net_core.proofs.Library.{crosses, send}
use Rattle.board_desk.proofs.Sent.{caller_send}
use Rattle.planning_tests.proofs.Sent.{caps_sync}
use Rattle.planning_tests.proofs.workers.Fixture.TheSendSync as fixtures
use Rattle.planning_tests.proofs.workers.at_once.Goals as goal

pub join-of_one-requires-send-F : goal.join-of_one-requires-send-F
join-of_one-requires-send-F g c κs within = search (sendable, crosses, send, caller_send, fixtures.the_sync, caps_sync) depth 20

pub join-of_one-requires-send-A : goal.join-of_one-requires-send-A
join-of_one-requires-send-A g c κs within = search (sendable, caller_send) depth 20
