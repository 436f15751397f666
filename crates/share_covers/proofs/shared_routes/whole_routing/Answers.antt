use Rattle.std.proofs.Common.{◌*◌, ◌∙◌, List, ap, arith, inl, inr, length, subst}
use Rattle.plan_terms.specs.Terms.{Flow}
use Rattle.flow_mending.specs.Terms.{IsCommonDivisor}
use Rattle.share_covers.{proofs.Sharing.{large_at_whole, small_at_whole}, proofs.shared_routes.whole_routing.Goals.{then-flows-most-via-then-flows-most, then-flows-most-via-else-flows-most+then-den-common-ge-DEN_LIMIT}}
use Rattle.share_covers.proofs.shared_routes.whole_routing.Goals as goal

pub returns-then-flows-most : goal.returns-then-flows-most
returns-then-flows-most c =
    let r = c.args.routing.now in
    let common = c.common_divisor-common.result in
    let long = ap (λ (fs : List Flow). length fs) c.items-flows.ensures in
    let divides = subst (λ (fs : List Flow). IsCommonDivisor (r.den * c.args.scale) fs common) c.items-flows.ensures c.common_divisor-common.ensures in
    elim c.then-flows-most.branch [
      | then-flows-most-via-then-flows-most w ↦ inl (omega (arith, w.if-flows-most.true, long))
      | then-flows-most-via-else-flows-most+then-den-common-ge-DEN_LIMIT w ↦ inr (large_at_whole c.args.scale r common divides (omega (arith, w.if-den-common-ge-DEN_LIMIT.true)))
    ]

pub returns : goal.returns
returns c =
    let r = c.args.routing.now in
    let common = c.common_divisor-common.result in
    let long = ap (λ (fs : List Flow). length fs) c.items-flows.ensures in
    let divides = subst (λ (fs : List Flow). IsCommonDivisor (r.den * c.args.scale) fs common) c.items-flows.ensures c.common_divisor-common.ensures in
    small_at_whole c.args.scale r common divides c.args.most c.in_ok-flows_over.field-0 (omega (arith, c.if-flows-most.false, long)) (omega (arith, c.if-den-common-ge-DEN_LIMIT.false)) (c.in_ok-flows_over.ensures ∙ c.items-flows.ensures)
