use Rattle.std.proofs.Common.{subst, sym}
use Rattle.tree_check.specs.Trees.{TreeBox}
use Rattle.tree_boxes.specs.Terms.{IsSearchBox, aimed}
use Rattle.tree_search.proofs.Sides.{whole_searched}
use Rattle.tree_search.proofs.growth.first_tree.Goals as goal

pub look-requires-clause-search_box : goal.look-requires-clause-search_box
look-requires-clause-search_box c = subst (λ (box : TreeBox). IsSearchBox (aimed c.args.aim.now).links 0 box) (sym c.in_ok-whole.ensures) (whole_searched (aimed c.args.aim.now).links)
