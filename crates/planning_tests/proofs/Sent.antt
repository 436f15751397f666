-- What callers that work at once share.
use denote.Param.Send.{IsSync, sendable}
use Rattle.net_core.proofs.Library.{crosses}
use Rattle.net_core.proofs.plan.Caps.TheSendSync as all_caps
use Rattle.net_core.specs.contracts.plan.Caps as caps

pub caps_sync : IsSync caps.the_row
caps_sync = search (sendable, crosses, all_caps.the_sync) depth 20
