use Rattle.std.proofs.Common.{◌+◌, ◌^◌, List, insert, set, subst, sym, arith}
use Rattle.tree_boxes.{specs.Terms.{Node, aimed, handed_in}, specs.declared.twigs.Twig.Twig, proofs.Extending.low_box}
use Rattle.tree_search.{specs.declared.growth.Sides.Sides, specs.inner.Growing.{AreSidesOf, IsGrowing}, proofs.Staying.growing_on, proofs.Sides.{split_link_small, split_module_small}, proofs.Turning.{open_inside, read_known, read_open, split_growing}}
use Rattle.tree_search.specs.declared.growth.Sides.TheVariants as sides
use Rattle.tree_boxes.specs.declared.twigs.Twig.TheVariants as twig
use Rattle.tree_search.proofs.growth.split_at.Goals as goal

pub choose-requires-clause-search_box : goal.choose-requires-clause-search_box
choose-requires-clause-search_box c =
    let known = read_known c.args.at (open_inside c.requires.open) c.index.ensures c.in-Open.is c.requires.growing in
    low_box c.args.aim.now.instance.now.net.now.links c.args.splits (2 ^ 14) c.in-Open.open.boxed (omega (arith, c.requires.splits)) known.search_box

pub choose-requires-clause-unfixed : goal.choose-requires-clause-unfixed
choose-requires-clause-unfixed c = (read_known c.args.at (open_inside c.requires.open) c.index.ensures c.in-Open.is c.requires.growing).unfixed

pub choose-requires-clause-by_none : goal.choose-requires-clause-by_none
choose-requires-clause-by_none c = (read_known c.args.at (open_inside c.requires.open) c.index.ensures c.in-Open.is c.requires.growing).unsettled.by_none

pub look_sides-requires-clause-open : goal.look_sides-requires-clause-open
look_sides-requires-clause-open c = read_known c.args.at (open_inside c.requires.open) c.index.ensures c.in-Open.is c.requires.growing

pub look_sides-requires-clause-choice : goal.look_sides-requires-clause-choice
look_sides-requires-clause-choice c =
    let known = read_known c.args.at (open_inside c.requires.open) c.index.ensures c.in-Open.is c.requires.growing in
    c.in_ok-choice.ensures c.args.splits known.search_box.low

pub split_of-requires-clause-link : goal.split_of-requires-clause-link
split_of-requires-clause-link c =
    let net = c.args.aim.now.instance.now.net.now in
    let place = c.in_ok-choice.choice.place in
    let known = read_known c.args.at (open_inside c.requires.open) c.index.ensures c.in-Open.is c.requires.growing in
    let is = c.in_ok-choice.ensures c.args.splits known.search_box.low in
    split_link_small net.nodes net.links c.args.splits c.in-Open.open.boxed place.link place.module c.in_ok-choice.choice.at net.checked known.search_box is.split

pub split_of-requires-clause-inside : goal.split_of-requires-clause-inside
split_of-requires-clause-inside c =
    let net = c.args.aim.now.instance.now.net.now in
    let place = c.in_ok-choice.choice.place in
    let known = read_known c.args.at (open_inside c.requires.open) c.index.ensures c.in-Open.is c.requires.growing in
    let is = c.in_ok-choice.ensures c.args.splits known.search_box.low in
    split_module_small net.nodes net.links c.args.splits c.in-Open.open.boxed place.link place.module c.in_ok-choice.choice.at net.checked known.search_box is.split

pub split-requires : goal.split-requires
split-requires c = open_inside c.requires.open

pub returns-in_ok-split-in-Twigs-clause-turn : goal.returns-in_ok-split-in-Twigs-clause-turn
returns-in_ok-split-in-Twigs-clause-turn c =
    let a = c.args.aim.now in
    let p = aimed a in
    let plan = a.plan.now in
    let s = c.args.search.now in
    let handed = handed_in s in
    let tested = c.look_sides.new.search.known.tested in
    let n = c.args.splits in
    let i = c.args.at in
    let twigs = c.args.tree.now.twigs.items in
    let o = c.in-Open.open in
    let choice = c.in_ok-choice.choice in
    let lower = c.in-Twigs.lower in
    let upper = c.in-Twigs.upper in
    let there = read_open twigs i c.index.result.now o (open_inside c.requires.open) c.index.ensures c.in-Open.is in
    let known = read_known i (open_inside c.requires.open) c.index.ensures c.in-Open.is c.requires.growing in
    let is = c.in_ok-choice.ensures n known.search_box.low in
    let both : AreSidesOf p plan handed tested (n + 1) o.boxed choice (sides.Twigs lower upper) =
    subst (λ (found : Sides). AreSidesOf p plan handed tested (n + 1) o.boxed choice found) c.in-Twigs.is c.in_ok-cheaper.ensures.found in
    let later = growing_on p plan s.known.tested tested c.in_ok-cheaper.ensures.learned.tested handed n twigs c.requires.growing in
    subst (λ (ts : List Twig). IsGrowing p plan handed tested (n + 1) ts) (sym c.in_ok-split-in-Twigs.ensures)
    (subst (λ (node : Node). IsGrowing p plan handed tested (n + 1) (set (insert (insert twigs (i + 1) upper) (i + 1) lower) i (twig.Settled node))) (sym c.split_of.ensures)
    (split_growing p plan handed tested n i twigs o there later choice lower upper is both))
