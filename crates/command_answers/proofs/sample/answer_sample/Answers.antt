use Rattle.std.proofs.Common.{subst, sym}
use Rattle.plan_terms.specs.Terms.{Three, IsSurvivable}
use Rattle.command_answers.proofs.sample.answer_sample.Goals as goal

pub planned-requires-clause-survivable : goal.planned-requires-clause-survivable
planned-requires-clause-survivable g c κs within =
    let net = c.in_ok-net.net in
    let demands = c.in_ok-net.demands in
    subst (λ places. IsSurvivable (record { nodes = net.nodes; links = net.links; listed = c.in_ok-states.states.listed; demands = demands; places = places })) (sym c.in_ok-net.ensures.places)
    (subst (λ listed. IsSurvivable (record { nodes = net.nodes; links = net.links; listed = listed; demands = demands; places = Three })) (sym c.in_ok-states.ensures.list)
    c.in_ok-net.ensures.survivable)
