use Rattle.std.proofs.Common.{◌+◌, IfOk, subst, sym}
use Rattle.tree_check.specs.Trees.{TreeBox}
use Rattle.tree_boxes.specs.Terms.{IsFoundAt, IsSearchBox, aimed, handed_in}
use Rattle.tree_search.proofs.Sides.{upper_searched}
use Rattle.tree_search.proofs.growth.look_upper.Goals as goal

pub look-requires-clause-search_box : goal.look-requires-clause-search_box
look-requires-clause-search_box c =
    let p = aimed c.args.aim.now in
    subst (λ (box : TreeBox). IsSearchBox p.links (c.args.splits + 1) box) (sym c.in_ok-side.ensures)
    (upper_searched p.links c.args.aim.now.plan.now.cost c.args.splits c.args.open.now.boxed c.args.choice.now c.requires.search_box c.requires.choice)

pub returns-clause-found : goal.returns-clause-found
returns-clause-found c =
    let a = c.args.aim.now in
    let tested = c.look.new.search.known.tested in
    subst (λ (box : TreeBox). IfOk c.look.result (IsFoundAt (aimed a) a.plan.now (handed_in c.args.search.now) tested (c.args.splits + 1) box)) c.in_ok-side.ensures
    c.look.ensures.found
