use Rattle.std.proofs.Common.{List, ℕ, get_or, length, refl, subst, sym, ap, take, ◌≡◌, ◌<◌, ◌∙◌, arith, IsPermutation}
use Rattle.net_core.proofs.Library.{range_with_len, take-length, slice_get_read}
use Rattle.plan_terms.specs.Terms.{Joins, graph_of, Demand}
use Rattle.greedy_router.{specs.inner.Drafts.AreRouted, proofs.Adding.{routed_all, routed_more, routed_none}, proofs.Falling.place_below}
use Rattle.greedy_router.proofs.greedy_flows.route_missing.Goals as goal

-- the order has the places of the demands
moved_places : (amounts rest items order : List ℕ) (demands : List Demand) → amounts ≡ rest → length rest ≡ length demands → items ≡ order
    → IsPermutation (range_with_len 0 (length amounts)) order → IsPermutation (range_with_len 0 (length demands)) items
moved_places amounts rest items order demands same long listed moved =
    subst (λ xs. IsPermutation (range_with_len 0 (length demands)) xs) (sym listed)
    (subst (λ n. IsPermutation (range_with_len 0 n) order) (ap length same ∙ long) moved)

pub loop-k-init : goal.loop-k-init
loop-k-init c =
    let task = c.args.task.now in
    let caps = task.caps.now in
    (c.in_ok-finder.ensures, routed_none (Joins (graph_of task.graph)) task.demands.now caps.scale caps.nums c.in_ok-draft.draft c.in_ok-draft.ensures)

pub bounds-demands-k : goal.bounds-demands-k
bounds-demands-k c =
    let demands = c.args.task.now.demands.now in
    let order = c.items-k-items.result.now in
    let moved = moved_places c.items.result.now _ order _ demands c.items.ensures c.in_ok-draft.ensures.rests c.items-k-items.ensures c.in_ok-order.ensures.places in
    subst (λ (ds : List Demand). get_or order c.loop-k.k-index 0 < length ds) (sym c.items-demands.ensures) (place_below (length demands) order c.loop-k.k-index moved c.loop-k-test.true)

pub route_demand-requires-clause-k : goal.route_demand-requires-clause-k
route_demand-requires-clause-k c =
    let demands = c.args.task.now.demands.now in
    let order = c.items-k-items.result.now in
    let moved = moved_places c.items.result.now _ order _ demands c.items.ensures c.in_ok-draft.ensures.rests c.items-k-items.ensures c.in_ok-order.ensures.places in
    let below = place_below (length demands) order c.loop-k.k-index moved c.loop-k-test.true in
    subst (λ n. get_or order c.loop-k.k-index 0 < n) (sym c.loop-k.invariant.1.whole.rests) below

pub route_demand-requires-clause-from : goal.route_demand-requires-clause-from
route_demand-requires-clause-from c =
    let demands = c.args.task.now.demands.now in
    let order = c.items-k-items.result.now in
    let d = c.index-demands-k.result in
    let moved = moved_places c.items.result.now _ order _ demands c.items.ensures c.in_ok-draft.ensures.rests c.items-k-items.ensures c.in_ok-order.ensures.places in
    let below = place_below (length demands) order c.loop-k.k-index moved c.loop-k-test.true in
    let at : d ≡ get_or demands (get_or order c.loop-k.k-index 0) d = subst (λ (ds : List Demand). d ≡ get_or ds (get_or order c.loop-k.k-index 0) d) c.items-demands.ensures c.index-demands-k.is in
    let known = c.args.task.now.belong.each (get_or order c.loop-k.k-index 0) d below in
    subst (λ (x : Demand). x.from.0 < length c.loop-k.finder.graph.net.now.nodes) (sym at) (rw (sym c.loop-k.invariant.0) at known.from_known)

pub route_demand-requires-clause-to : goal.route_demand-requires-clause-to
route_demand-requires-clause-to c =
    let demands = c.args.task.now.demands.now in
    let order = c.items-k-items.result.now in
    let d = c.index-demands-k.result in
    let moved = moved_places c.items.result.now _ order _ demands c.items.ensures c.in_ok-draft.ensures.rests c.items-k-items.ensures c.in_ok-order.ensures.places in
    let below = place_below (length demands) order c.loop-k.k-index moved c.loop-k-test.true in
    let at : d ≡ get_or demands (get_or order c.loop-k.k-index 0) d = subst (λ (ds : List Demand). d ≡ get_or ds (get_or order c.loop-k.k-index 0) d) c.items-demands.ensures c.index-demands-k.is in
    let known = c.args.task.now.belong.each (get_or order c.loop-k.k-index 0) d below in
    subst (λ (x : Demand). x.to.0 < length c.loop-k.finder.graph.net.now.nodes) (sym at) (rw (sym c.loop-k.invariant.0) at known.to_known)

pub loop-k-preserved : goal.loop-k-preserved
loop-k-preserved c =
    let task = c.args.task.now in
    let caps = task.caps.now in
    let demands = task.demands.now in
    let order = c.items-k-items.result.now in
    let d = c.index-demands-k.result in
    let e = c.in_ok-route_demand.ensures in
    let moved = moved_places c.items.result.now _ order _ demands c.items.ensures c.in_ok-draft.ensures.rests c.items-k-items.ensures c.in_ok-order.ensures.places in
    let below = place_below (length demands) order c.loop-k.k-index moved c.loop-k-test.true in
    let at : d ≡ get_or demands (get_or order c.loop-k.k-index 0) d = subst (λ (ds : List Demand). d ≡ get_or ds (get_or order c.loop-k.k-index 0) d) c.items-demands.ensures c.index-demands-k.is in
    let same = c.loop-k.invariant.0 in (
      c.in_ok-route_demand.ensures.graph ∙ same,
      routed_more (Joins (graph_of task.graph)) demands caps.scale caps.nums order c.loop-k.k-index d c.loop-k.draft c.route_demand.new.draft c.loop-k-test.true
          (slice_get_read demands (length demands) (get_or order c.loop-k.k-index 0) d refl below at) (rw same at e.adds) (rw same at e.blocked) c.loop-k.invariant.1,
    )

pub returns : goal.returns
returns c =
    let task = c.args.task.now in
    let caps = task.caps.now in
    let demands = task.demands.now in
    let order = c.items-k-items.result.now in
    let moved = moved_places c.items.result.now _ order _ demands c.items.ensures c.in_ok-draft.ensures.rests c.items-k-items.ensures c.in_ok-order.ensures.places in
    let end : c.loop-k.k-index ≡ length order = omega (arith, c.loop-k-test.false, c.loop-k.auto.k-index-end) in
    routed_all (Joins (graph_of task.graph)) demands caps.scale caps.nums order (range_with_len 0 (length demands)) c.loop-k.draft moved
    (subst (λ xs. AreRouted (Joins (graph_of task.graph)) demands caps.scale caps.nums xs c.loop-k.draft) (ap (λ n. take n order) end ∙ take-length order) c.loop-k.invariant.1)
