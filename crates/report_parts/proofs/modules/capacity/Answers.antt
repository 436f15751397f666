use Rattle.std.proofs.Common.{◌≡◌, ◌+◌, ◌*◌, ◌<◌, ◌^◌, List, length, min, get_or, subst, arith}
use Rattle.net_core.proofs.Library.{slice_get-get_or}
use Rattle.plan_terms.specs.Terms.{Module}
use Rattle.report_parts.proofs.Counts.{capacity_next, capacity_none}
use Rattle.report_parts.proofs.modules.capacity.Goals as goal

pub loop-i-init : goal.loop-i-init
loop-i-init c = omega (arith, c.capped-capacity.ensures, capacity_none c.args.link.now.modules)

pub loop-i-preserved : goal.loop-i-preserved
loop-i-preserved c =
    let modules = c.args.link.now.modules in
    let counts = c.args.counts.now in
    let i = c.loop-i.i in
    let none : Module = record { capacity = 0; cost = 0 } in
    let r : c.capped-capacity-in-loop-i.result ≡ min (c.loop-i.capacity + (get_or modules i none).capacity * get_or counts i 0) (2 ^ 46) =
    subst (λ (ms : List Module). c.capped-capacity-in-loop-i.result ≡ min (c.loop-i.capacity + (get_or ms i none).capacity * get_or counts i 0) (2 ^ 46)) c.items.ensures c.capped-capacity-in-loop-i.ensures in
    let within : i < length counts = c.loop-i-test.true in
    omega (arith, r, c.loop-i.invariant, capacity_next modules counts i (get_or modules i none) within (slice_get-get_or modules i none (omega (arith, within, c.requires))))
