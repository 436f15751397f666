use Rattle.std.proofs.Common.{◌+◌, ◌≤◌, arith, length, subst, sym}
use Rattle.tree_check.specs.Terms.{lower_side, upper_side}
use Rattle.tree_boxes.{specs.declared.found.Found.Found, specs.Terms.{HasLearned, IsFoundAt, aimed, handed_in, most_entries}, proofs.Extending.{aim_on, learned_on, most_more}}
use Rattle.tree_search.{specs.declared.growth.Sides.Sides, specs.inner.Growing.AreSidesOf, proofs.Sides.sides_found_with}
use Rattle.tree_search.proofs.growth.look_sides.Goals as goal

pub look_lower-requires-clause-search_box : goal.look_lower-requires-clause-search_box
look_lower-requires-clause-search_box c = c.requires.open.search_box

pub look_upper-requires-clause-search_box : goal.look_upper-requires-clause-search_box
look_upper-requires-clause-search_box c = c.requires.open.search_box

pub look_upper-requires-clause-aim : goal.look_upper-requires-clause-aim
look_upper-requires-clause-aim c =
    aim_on c.args.aim.now c.args.search.now.known.entries c.look_lower.new.search.known.entries c.in_ok-cheaper.ensures.learned.extends c.requires.aim

pub look_upper-requires-clause-room : goal.look_upper-requires-clause-room
look_upper-requires-clause-room c =
    let told = c.in_ok-cheaper.ensures in
    omega (arith, most_more c.args.search.now c.look_lower.new.search 1 told.learned told.few, c.requires.room)

pub returns-in-Ok-clause-learned : goal.returns-in-Ok-clause-learned
returns-in-Ok-clause-learned c =
    learned_on c.args.search.now c.look_lower.new.search c.look_upper.new.search c.in_ok-cheaper.ensures.learned (rw c.in-Ok.is at c.look_upper.ensures.learned)

pub returns-in-Ok-clause-few : goal.returns-in-Ok-clause-few
returns-in-Ok-clause-few c =
    let told = c.in_ok-cheaper.ensures in
    let more : length c.look_upper.new.search.known.entries ≤ most_entries c.look_lower.new.search + 1 = rw c.in-Ok.is at c.look_upper.ensures.few in
    omega (arith, most_more c.args.search.now c.look_lower.new.search 1 told.learned told.few, more)

pub returns-in-Ok-clause-found : goal.returns-in-Ok-clause-found
returns-in-Ok-clause-found c =
    let p = aimed c.args.aim.now in
    let plan = c.args.aim.now.plan.now in
    let n = c.args.splits + 1 in
    let s0 = c.args.search.now in
    let s1 = c.look_lower.new.search in
    let s2 = c.look_upper.new.search in
    let box = c.args.open.now.boxed in
    let choice = c.args.choice.now in
    let below = subst (λ (f : Found). IsFoundAt p plan (handed_in s0) s1.known.tested n (lower_side box choice.place.link choice.place.module choice.at) f) c.in-Twig.is
    c.in_ok-cheaper.ensures.found in
    let learned : HasLearned s1 s2 = rw c.in-Ok.is at c.look_upper.ensures.learned in
    let above : IsFoundAt p plan (handed_in s1) s2.known.tested n (upper_side box choice.place.link choice.place.module choice.at) c.in-Ok.found =
    rw c.in-Ok.is at c.look_upper.ensures.found in
    subst (λ (s : Sides). AreSidesOf p plan (handed_in s0) s2.known.tested n box choice s) (sym c.sides_with.ensures)
    (sides_found_with p plan n box choice s0 s1 s2 c.in-Twig.twig c.in-Ok.found c.requires.search.inside c.in_ok-cheaper.ensures.learned learned below above)
