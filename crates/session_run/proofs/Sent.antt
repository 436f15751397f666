-- what callers on threads of their own are lent, and what they give
use denote.Ref.{NamedLft}
use denote.Param.Send.{IsSend, IsSync, sendable}
use Rattle.net_core.proofs.Library.{crosses}
use Rattle.hint_board.proofs.board.HintBoard.TheSendSync as hint_boards
use Rattle.net_core.proofs.list.List.TheSendSync as lists
use Rattle.net_core.proofs.name.Name.TheSendSync as names
use Rattle.net_core.proofs.network.Network.TheSendSync as networks
use Rattle.net_core.proofs.states.States.TheSendSync as all_states
use Rattle.net_core.specs.contracts.columns.MasterColumn as master_column
use Rattle.net_core.specs.contracts.columns.RouteColumn as route_column
use Rattle.net_core.specs.contracts.demand.Demand as demand
use Rattle.net_core.specs.contracts.plan.Routing as routing
use Rattle.net_core.specs.contracts.columns.Evidence as evidence
use Rattle.plan_types.specs.contracts.quality.Cause as cause
use Rattle.plan_types.specs.contracts.quality.Fractional as fractional
use Rattle.plan_types.specs.contracts.quality.Quality as quality
use Rattle.plan_types.specs.contracts.certificate.Certificate as certificate
use Rattle.plan_types.specs.contracts.plan.Plan as plan
use Rattle.plan_types.specs.contracts.report.Outcome as outcome
use Rattle.session_script.specs.contracts.script.Command as command
use Rattle.session_run.specs.contracts.setting.Setting as setting

routing_send : IsSend routing.the_row
routing_send = search (sendable, crosses, lists.the_send) depth 30

demand_send : IsSend demand.the_row
demand_send = search (sendable, crosses, names.the_send) depth 30

certificate_send : IsSend certificate.the_field.row
certificate_send = search (sendable, crosses, lists.the_send) depth 30

route_column_send : IsSend route_column.the_row
route_column_send = search (sendable, crosses, lists.the_send) depth 30

master_column_send : IsSend master_column.the_row
master_column_send = search (sendable, crosses, lists.the_send) depth 30

evidence_send : IsSend evidence.the_field.row
evidence_send = search (sendable, crosses, lists.the_send, route_column_send, master_column_send) depth 30 fits 20000

cause_send : IsSend cause.the_field.row
cause_send = search (sendable, crosses, evidence_send) depth 30

fractional_send : IsSend fractional.the_field.row
fractional_send = search (sendable, crosses, lists.the_send, routing_send) depth 30

quality_send : IsSend quality.the_field.row
quality_send = search (sendable, crosses, fractional_send, cause_send) depth 30

plan_send : IsSend plan.the_field.row
plan_send = search (sendable, crosses, lists.the_send, demand_send, routing_send, certificate_send, quality_send) depth 30 fits 20000

-- an outcome may go to another thread
pub outcome_send : IsSend outcome.the_row
outcome_send = search (sendable, crosses, names.the_send, plan_send) depth 30

command_sync : IsSync command.the_row
command_sync = search (sendable, crosses, names.the_sync) depth 30

-- what callers share may be lent to several threads
pub setting_sync : (κ : NamedLft) → IsSync (setting.the_row κ)
setting_sync κ = search (sendable, crosses, command_sync, hint_boards.the_sync, networks.the_sync, all_states.the_sync) depth 30
