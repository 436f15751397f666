use Rattle.std.proofs.Common.{◌+◌, ◌≤◌, List, IfOk, arith, length, subst}
use Rattle.net_core.proofs.Library.{on_ok_weaker}
use Rattle.plan_terms.specs.Terms.{CutLine}
use Rattle.tree_boxes.{specs.declared.twigs.Twig.Twig, specs.Searches.{aimed, most_entries}, proofs.Extending.{aim_on, handed_same, learned_on, most_on}}
use Rattle.tree_search.{specs.inner.Growing.IsTurnTo, specs.inner.Places.{AreSettled, IsOpenPlace}, proofs.Turning.open_inside}
use Rattle.tree_search.proofs.growth.grow_once.Goals as goal

pub look_again-requires-clause-aim : goal.look_again-requires-clause-aim
look_again-requires-clause-aim c = aim_on c.args.aim.now c.args.search.now.known.entries c.loop.search.known.entries c.loop.invariant.learned.extends c.requires.aim

pub look_again-requires-clause-room : goal.look_again-requires-clause-room
look_again-requires-clause-room c = omega (arith, most_on c.args.search.now c.loop.search c.loop.invariant.learned c.loop.invariant.few, c.requires.room)

pub look_again-requires-clause-at : goal.look_again-requires-clause-at
look_again-requires-clause-at c =
    open_inside (subst (λ (ts : List Twig). IsOpenPlace ts c.in-Some.at) c.deref.ensures.value c.in-Some.ensures)

pub returns-in_default-clause-turn : goal.returns-in_default-clause-turn
returns-in_default-clause-turn c = (c.loop.invariant.growing, subst (λ (ts : List Twig). AreSettled ts) c.deref.ensures.value c.in_default.ensures)

pub split_at-requires-clause-aim : goal.split_at-requires-clause-aim
split_at-requires-clause-aim c =
    let first = learned_on c.args.search.now c.loop.search c.look_again.new.search c.loop.invariant.learned c.in_ok-cheaper.ensures.learned in
    aim_on c.args.aim.now c.args.search.now.known.entries c.look_again.new.search.known.entries first.extends c.requires.aim

pub split_at-requires-clause-room : goal.split_at-requires-clause-room
split_at-requires-clause-room c =
    let told = c.in_ok-cheaper.ensures in
    let before = most_on c.args.search.now c.loop.search c.loop.invariant.learned c.loop.invariant.few in
    let after = most_on c.loop.search c.look_again.new.search told.learned told.few in
    omega (arith, before, after, c.requires.room)

pub returns-then-eq-clause-few : goal.returns-then-eq-clause-few
returns-then-eq-clause-few c =
    let told = c.in_ok-cheaper.ensures in
    let before = most_on c.args.search.now c.loop.search c.loop.invariant.learned c.loop.invariant.few in
    let after = most_on c.loop.search c.look_again.new.search told.learned told.few in
    let long = length c.split_at.new.search.known.entries in
    on_ok_weaker c.split_at.result (λ (le : long ≤ most_entries c.look_again.new.search + 2). omega (arith, le, before, after)) c.split_at.ensures.few

pub returns-then-eq-clause-learned : goal.returns-then-eq-clause-learned
returns-then-eq-clause-learned c =
    let first = learned_on c.args.search.now c.loop.search c.look_again.new.search c.loop.invariant.learned c.in_ok-cheaper.ensures.learned in
    on_ok_weaker c.split_at.result (learned_on c.args.search.now c.look_again.new.search c.split_at.new.search first) c.split_at.ensures.learned

pub returns-then-eq-clause-turn : goal.returns-then-eq-clause-turn
returns-then-eq-clause-turn c =
    let a = c.args.aim.now in
    let first = learned_on c.args.search.now c.loop.search c.look_again.new.search c.loop.invariant.learned c.in_ok-cheaper.ensures.learned in
    subst (λ (handed : List CutLine). IfOk c.split_at.result (IsTurnTo (aimed a) a.plan.now handed c.split_at.new.search.known.tested c.args.splits c.split_at.new.tree.twigs.items))
    (handed_same c.args.search.now c.look_again.new.search first c.requires.search.inside)
    c.split_at.ensures.turn

pub split_at-requires-in-Some-least_open-clause-aim : goal.split_at-requires-in-Some-least_open-clause-aim
split_at-requires-in-Some-least_open-clause-aim c = aim_on c.args.aim.now c.args.search.now.known.entries c.loop.search.known.entries c.loop.invariant.learned.extends c.requires.aim

pub split_at-requires-in-Some-least_open-clause-room : goal.split_at-requires-in-Some-least_open-clause-room
split_at-requires-in-Some-least_open-clause-room c = omega (arith, most_on c.args.search.now c.loop.search c.loop.invariant.learned c.loop.invariant.few, c.requires.room)

pub returns-in-None-clause-turn : goal.returns-in-None-clause-turn
returns-in-None-clause-turn c = (c.loop.invariant.growing, subst (λ (ts : List Twig). AreSettled ts) c.deref-2.ensures.value c.in-None.ensures)

pub returns-in-Some-least_open-clause-few : goal.returns-in-Some-least_open-clause-few
returns-in-Some-least_open-clause-few c =
    let split = c.split_at-in-Some-least_open in
    let before = most_on c.args.search.now c.loop.search c.loop.invariant.learned c.loop.invariant.few in
    let long = length split.new.search.known.entries in
    on_ok_weaker split.result (λ (le : long ≤ most_entries c.loop.search + 2). omega (arith, le, before)) split.ensures.few

pub returns-in-Some-least_open-clause-learned : goal.returns-in-Some-least_open-clause-learned
returns-in-Some-least_open-clause-learned c =
    let split = c.split_at-in-Some-least_open in
    on_ok_weaker split.result (learned_on c.args.search.now c.loop.search split.new.search c.loop.invariant.learned) split.ensures.learned

pub returns-in-Some-least_open-clause-turn : goal.returns-in-Some-least_open-clause-turn
returns-in-Some-least_open-clause-turn c =
    let a = c.args.aim.now in
    let split = c.split_at-in-Some-least_open in
    subst (λ (handed : List CutLine). IfOk split.result (IsTurnTo (aimed a) a.plan.now handed split.new.search.known.tested c.args.splits split.new.tree.twigs.items))
    (handed_same c.args.search.now c.loop.search c.loop.invariant.learned c.requires.search.inside)
    split.ensures.turn
