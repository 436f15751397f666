use Rattle.std.proofs.Common.{List, subst, sym}
use Rattle.tree_check.specs.Terms.{IsFixedBox, TreeBox}
use Rattle.tree_boxes.{specs.declared.found.Found.Found, specs.declared.twigs.Twig.Twig, specs.Terms.{IsFoundAt, IsSearchBox, aimed, handed_in}}
use Rattle.tree_search.{specs.inner.Growing.IsGrowing, proofs.Staying.growing_on, proofs.Turning.{read_known, read_open, twig_growing}}
use Rattle.tree_boxes.specs.declared.found.Found.TheVariants as found
use Rattle.tree_search.proofs.growth.look_again.Goals as goal

pub look-requires-clause-search_box : goal.look-requires-clause-search_box
look-requires-clause-search_box c =
    let known = read_known c.args.at c.requires.at c.index.ensures c.in-Open.is c.requires.growing in
    subst (λ (box : TreeBox). IsSearchBox c.args.aim.now.instance.now.net.now.links c.args.splits box) (sym c.in_ok-boxed.ensures) known.search_box

pub returns-in-Cheaper-clause-few : goal.returns-in-Cheaper-clause-few
returns-in-Cheaper-clause-few c =
    let known = read_known c.args.at c.requires.at c.index.ensures c.in-Open.is c.requires.growing in
    c.in_ok-cheaper.ensures.unfixed (λ fixed. known.unfixed (subst IsFixedBox c.in_ok-boxed.ensures fixed))

pub returns-in-Cheaper-clause-growing : goal.returns-in-Cheaper-clause-growing
returns-in-Cheaper-clause-growing c =
    let a = c.args.aim.now in
    let s = c.args.search.now in
    growing_on (aimed a) a.plan.now s.known.tested c.look.new.search.known.tested c.in_ok-cheaper.ensures.learned.tested (handed_in s) c.args.splits
    c.args.tree.now.twigs.items c.requires.growing

pub returns-clause-few : goal.returns-clause-few
returns-clause-few c =
    let known = read_known c.args.at c.requires.at c.index.ensures c.in-Open.is c.requires.growing in
    c.in_ok-cheaper.ensures.unfixed (λ fixed. known.unfixed (subst IsFixedBox c.in_ok-boxed.ensures fixed))

pub returns-clause-growing : goal.returns-clause-growing
returns-clause-growing c =
    let a = c.args.aim.now in
    let p = aimed a in
    let s = c.args.search.now in
    let tested = c.look.new.search.known.tested in
    let n = c.args.splits in
    let twigs = c.args.tree.now.twigs.items in
    let o = c.in-Open.open in
    let t = c.in-Twig.twig in
    let there = read_open twigs c.args.at c.index.result.now o c.requires.at c.index.ensures c.in-Open.is in
    let here : IsFoundAt p a.plan.now (handed_in s) tested n o.boxed (found.Twig t) =
    subst (λ (box : TreeBox). IsFoundAt p a.plan.now (handed_in s) tested n box (found.Twig t)) c.in_ok-boxed.ensures
    (subst (λ (f : Found). IsFoundAt p a.plan.now (handed_in s) tested n c.in_ok-boxed.boxed f) c.in-Twig.is c.in_ok-cheaper.ensures.found) in
    let later = growing_on p a.plan.now s.known.tested tested c.in_ok-cheaper.ensures.learned.tested (handed_in s) n twigs c.requires.growing in
    subst (λ (ts : List Twig). IsGrowing p a.plan.now (handed_in s) tested n ts) (sym c.replace.ensures)
    (twig_growing p a.plan.now (handed_in s) tested n c.args.at twigs o there later t here.0 here.1)
