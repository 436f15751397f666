use Rattle.std.{proofs.Common.{◌≡◌, ◌∙◌, ℕ, List, Some, ap, arith, length, slice_get, subst}, proofs.lemmas.List.length_push}
use Rattle.plan_terms.specs.Terms.{Routing, case_of}
use Rattle.module_choice.proofs.Pairs.{capacities_long}
use Rattle.plan_swaps.specs.Terms.{IsRoutingWithin}
use Rattle.tree_boxes.proofs.Asked.{routed_more}
use Rattle.tree_boxes.proofs.large.stop_anywhere.Goals as goal

pub route_in-requires-clause-count : goal.route_in-requires-clause-count
route_in-requires-clause-count c =
    let links = c.args.instance.now.net.now.links in
    ap (λ (nums : List ℕ). length nums) c.in_ok-caps.ensures.1 ∙ capacities_long links c.args.counts.now c.requires.shape

pub loop-s-preserved : goal.loop-s-preserved
loop-s-preserved c =
    let p = case_of c.args.instance.now in
    let nums = c.in_ok-caps.caps.nums in
    let before = c.loop-s.routings in
    let s = c.loop-s.s in
    let one = c.in-Ok.routing in
    let so_far = c.loop-s.invariant in
    let pushed = c.in_ok-push-in-Ok.ensures.ok in
    let here : IsRoutingWithin p s nums one = rw c.in-Ok.is at c.in_ok-routing.ensures in
    record {
      count = omega (arith, so_far.count, length_push before one, ap (λ (rs : List Routing). length rs) pushed);
      each = λ t r at. routed_more p nums before s one so_far.count so_far.each here t r (subst (λ (rs : List Routing). slice_get rs t ≡ Some r) pushed at);
    }

pub returns : goal.returns
returns c =
    let p = case_of c.args.instance.now in
    let so_far = c.loop-s.invariant in
    record {
      states = omega (arith, so_far.count, c.loop-s-test.false, c.loop-s.auto.s-end, c.count-s-end.ensures);
      each = λ t r at. subst (λ (nums : List ℕ). IsRoutingWithin p t nums r) c.in_ok-caps.ensures.1 (so_far.each t r at);
    }
