use Rattle.std.proofs.Common.{◌≡◌, ap, subst, arith, length}
use Rattle.plan_terms.specs.Terms.{NodeId}
use Rattle.path_split.{specs.Balances.IsFirstUnbalanced, specs.inner.Legs.IsFirstUneven, proofs.Ending.{even_balanced, first_unbalanced, legs_few, legs_known, match_none, match_some, whole_split}}
use Rattle.path_split.proofs.split.split_flow.Goals as goal

pub first_uneven-requires-clause-known : goal.first_uneven-requires-clause-known
first_uneven-requires-clause-known c =
    let moved = rw (c.items.ensures, c.links.ensures, c.items-2.ensures) at c.in_ok-legs.ensures.moved in
    rw (c.items-3.ensures, c.len-nodes.ensures, c.nodes.ensures) (legs_known c.args.net.now.links c.args.arcs.now _ moved c.requires.arcs c.args.net.now.nodes c.args.net.now.checked)

pub first_uneven-requires-clause-few : goal.first_uneven-requires-clause-few
first_uneven-requires-clause-few c =
    let moved = rw (c.items.ensures, c.links.ensures, c.items-2.ensures) at c.in_ok-legs.ensures.moved in
    rw c.items-3.ensures (omega (arith, legs_few c.args.net.now.links c.args.arcs.now _ moved c.requires.arcs, c.requires.few))

pub split_even-requires-clause-known : goal.split_even-requires-clause-known
split_even-requires-clause-known c =
    let moved = rw (c.items.ensures, c.links.ensures, c.items-2.ensures) at c.in_ok-legs.ensures.moved in
    rw (c.items-in-None.ensures, c.len-nodes.ensures, c.nodes.ensures) (legs_known c.args.net.now.links c.args.arcs.now _ moved c.requires.arcs c.args.net.now.nodes c.args.net.now.checked)

pub returns-in-Some-clause-unbalanced : goal.returns-in-Some-clause-unbalanced
returns-in-Some-clause-unbalanced c = λ n e.
    let moved = rw (c.items.ensures, c.links.ensures, c.items-2.ensures) at c.in_ok-legs.ensures.moved in
    let told = match_some _ (λ m. IsFirstUneven c.len-nodes.result c.items-3.result.now c.args.from.0 c.args.to.0 c.args.need m.0) c.in_ok-node.field-0 c.in-Some.node c.in-Some.is c.in_ok-node.ensures in
    let first = rw (c.items-3.ensures, c.len-nodes.ensures, c.nodes.ensures) at told in
    let same : c.in-Some.node ≡ (record { 0 = n }) = cc e in
    subst (IsFirstUnbalanced (length c.args.net.now.nodes) c.args.net.now.links c.args.arcs.now c.args.from.0 c.args.to.0 c.args.need) (ap (λ (i : NodeId). i.0) same)
    (first_unbalanced c.args.net.now.links c.args.arcs.now _ moved c.requires.arcs _ _ _ _ _ first)

pub returns-clause-balanced : goal.returns-clause-balanced
returns-clause-balanced c = λ x lt.
    let moved = rw (c.items.ensures, c.links.ensures, c.items-2.ensures) at c.in_ok-legs.ensures.moved in
    let even = match_none _ (λ m. IsFirstUneven c.len-nodes.result c.items-3.result.now c.args.from.0 c.args.to.0 c.args.need m.0) c.in_ok-node.field-0 c.in-None.is c.in_ok-node.ensures in
    even_balanced c.args.net.now.links c.args.arcs.now _ moved c.requires.arcs _ _ _ x (rw c.items-3.ensures at (even x (omega (arith, lt, c.len-nodes.ensures, ap length c.nodes.ensures))))

pub returns-clause-split : goal.returns-clause-split
returns-clause-split c =
    let moved = rw (c.items.ensures, c.links.ensures, c.items-2.ensures) at c.in_ok-legs.ensures.moved in
    let state = c.in_ok-flows-in-None.ensures.state in
    whole_split c.args.net.now.links c.args.arcs.now _ moved c.requires.arcs _ _ _ state.0 _ (rw c.items-in-None.ensures at state.1) c.in_ok-flows-in-None.ensures.met
