use Rattle.plan_report.specs.Terms.{known_of}
use Rattle.flow_file.proofs.FlowLaws.{flows_first, flows_form, flows_found, flows_only}
use Rattle.flow_file.proofs.file.read_flows.Goals as goal

pub returns-clause-found : goal.returns-clause-found
returns-clause-found c = flows_found (known_of c.args.net.now c.args.states.now) c.args.demands.now c.args.net.now.checked c.requires.different c.args.bytes.now c.file.result (rw (c.in_ok-context.ensures.net, c.in_ok-context.ensures.states, c.in_ok-known.ensures, c.items.ensures) at c.file.ensures)

pub returns-clause-only : goal.returns-clause-only
returns-clause-only c = flows_only (known_of c.args.net.now c.args.states.now) c.args.demands.now c.args.net.now.checked c.requires.different c.args.bytes.now c.file.result (rw (c.in_ok-context.ensures.net, c.in_ok-context.ensures.states, c.in_ok-known.ensures, c.items.ensures) at c.file.ensures)

pub returns-clause-not_early : goal.returns-clause-not_early
returns-clause-not_early c = flows_first (known_of c.args.net.now c.args.states.now) c.args.demands.now c.args.net.now.checked c.requires.different c.args.bytes.now c.file.result (rw (c.in_ok-context.ensures.net, c.in_ok-context.ensures.states, c.in_ok-known.ensures, c.items.ensures) at c.file.ensures)

pub returns-clause-form : goal.returns-clause-form
returns-clause-form c = flows_form (known_of c.args.net.now c.args.states.now) c.args.demands.now c.args.net.now.checked c.requires.different c.args.bytes.now c.file.result (rw (c.in_ok-context.ensures.net, c.in_ok-context.ensures.states, c.in_ok-known.ensures, c.items.ensures) at c.file.ensures)
