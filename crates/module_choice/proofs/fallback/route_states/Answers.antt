use Rattle.std.proofs.Common.{◌≡◌, ◌∙◌, ◌+◌, arith, length, subst, sym}
use Rattle.plan_terms.specs.Terms.{case_of}
use Rattle.net_core.proofs.Lists.{all_written}
use Rattle.module_choice.specs.inner.Routes.{AreRouted}
use Rattle.module_choice.proofs.fallback.route_states.Goals as goal

pub route_next-requires-clause-state : goal.route_next-requires-clause-state
route_next-requires-clause-state c = omega (arith, c.loop.invariant.count, c.loop-test.true, c.count-end.ensures)

pub route_next-requires-clause-routed : goal.route_next-requires-clause-routed
route_next-requires-clause-routed c =
    let p = case_of c.args.instance.now in
    subst (AreRouted p c.args.lengths.now (length c.loop.routings) c.loop.routings) (sym c.items_mut.ensures.value)
    (subst (λ n. AreRouted p c.args.lengths.now n c.loop.routings c.loop.peaks) (sym c.loop.invariant.count) c.loop.invariant)

pub loop-preserved : goal.loop-preserved
loop-preserved c =
    let p = case_of c.args.instance.now in
    let new = c.route_next.new in
    let done : AreRouted p c.args.lengths.now (length c.loop.routings + 1) new.routings new.peaks = c.in_ok-route_next.ensures in
    let size : length new.peaks ≡ length c.loop.peaks = done.size ∙ sym c.loop.invariant.size in
    subst (AreRouted p c.args.lengths.now (c.loop.counter + 1) new.routings) (sym (all_written c.loop.peaks new.peaks size))
    (subst (λ n. AreRouted p c.args.lengths.now (n + 1) new.routings new.peaks) c.loop.invariant.count done)

pub returns : goal.returns
returns c =
    let all : c.loop.counter ≡ length c.args.instance.now.states.now.listed + 1 = omega (arith, c.loop.auto.counter-end, c.loop-test.false, c.count-end.ensures) in
    subst (λ n. AreRouted (case_of c.args.instance.now) c.args.lengths.now n c.loop.routings c.loop.peaks) all c.loop.invariant
