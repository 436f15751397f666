use Rattle.std.{proofs.Common.{◌≡◌, [], inl}, proofs.lemmas.Result.IfOk-weaker}
use Rattle.outside_io.specs.declared.status.Status.TheVariants.{BadNetwork}
use Rattle.people_plans.{specs.PlansForPeople.free_link_message, specs.declared.answer.PlanAnswer.PlanAnswer}
use Rattle.people_plans.proofs.plans.plan_for_people.Goals as goal

pub returns-in-Some : goal.returns-in-Some
returns-in-Some g c =
    let link = c.in-Some.link.now in
    let within = rw (c.len.ensures, c.nodes.ensures) at c.limit_of-limit.ensures.limit in
    let first = rw (c.items.ensures, c.links.ensures) at c.in-Some.ensures in
    IfOk-weaker c.free_answer.result
    (λ (a : PlanAnswer). (a.status ≡ BadNetwork) × (a.text ≡ []) × (a.message ≡ free_link_message c.args.network.now link.name)) _
    (λ a is. (c.limit_of-limit.result, within, inl (is.0, is.1, (first.0, link, first.1, is.2)))) (rw c.bytes.ensures.value at c.free_answer.ensures)

pub returns-in-None : goal.returns-in-None
returns-in-None g c =
    let within = rw (c.len.ensures, c.nodes.ensures) at c.limit_of-limit.ensures.limit in
    IfOk-weaker c.answer_charged.result _ _ (λ a is. (c.limit_of-limit.result, within, is)) c.answer_charged.ensures
