use Rattle.std.proofs.Common.{arith, ap, length}
use Rattle.net_core.proofs.Networks.{few_links}
use Rattle.failure_states.proofs.Labelling.{components_none}
use Rattle.failure_states.proofs.components.label_components.Goals as goal

pub loop-e-init : goal.loop-e-init
loop-e-init c = components_none _ _ _ (omega (arith, c.number.ensures.size, c.requires))
    (λ k lt. c.number.ensures.own k (omega (arith, c.requires)))

pub overflow_cast-e : goal.overflow_cast-e
overflow_cast-e c = omega (arith, ap length c.links.ensures, few_links _ _ c.args.graph.now.net.now.checked)
