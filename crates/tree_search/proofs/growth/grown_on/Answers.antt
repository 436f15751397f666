use Rattle.std.proofs.Common.{List, MatchOption, arith, subst, sym}
use Rattle.plan_terms.specs.Terms.{CutLine}
use Rattle.tree_boxes.{specs.Terms.{AreCheaperCounts, aimed, handed_in}, proofs.Extending.{aim_on, handed_same, learned_on, most_more}}
use Rattle.tree_search.{specs.declared.growth.Growth.Growth, specs.inner.Growing.{IsFirstTree, IsGrowing, IsGrownTo, IsGrownTree}, proofs.Turning.grown_with}
use Rattle.tree_search.proofs.growth.grown_on.Goals as goal

pub grow-requires-clause-aim : goal.grow-requires-clause-aim
grow-requires-clause-aim g c =
    aim_on c.args.aim.now c.args.search.now.known.entries c.first_tree.new.search.known.entries c.in_ok-cheaper.ensures.learned.extends c.requires.aim

pub grow-requires-clause-room : goal.grow-requires-clause-room
grow-requires-clause-room g c =
    let told = c.in_ok-cheaper.ensures in
    omega (arith, most_more c.args.search.now c.first_tree.new.search 1 told.learned told.few, c.requires.room)

pub grow-requires-clause-growing : goal.grow-requires-clause-growing
grow-requires-clause-growing g c =
    let a = c.args.aim.now in
    let s = c.args.search.now in
    let new = c.first_tree.new.search in
    let told = c.in_ok-cheaper.ensures in
    let is = subst (λ (x : Growth). IsFirstTree (aimed a) a.plan.now (handed_in s) new.known.tested x) c.in-Tree.is told.tree in
    subst (λ (handed : List CutLine). IsGrowing (aimed a) a.plan.now handed new.known.tested 0 c.in-Tree.tree.twigs.items) (sym (handed_same s new told.learned c.requires.search.inside)) is

pub returns-clause-learned : goal.returns-clause-learned
returns-clause-learned g c =
    learned_on c.args.search.now c.first_tree.new.search c.grow.new.search c.in_ok-cheaper.ensures.learned c.in_ok-found.ensures.learned

pub returns-clause-few : goal.returns-clause-few
returns-clause-few g c =
    let told = c.in_ok-cheaper.ensures in
    omega (arith, most_more c.args.search.now c.first_tree.new.search 1 told.learned told.few, c.in_ok-found.ensures.few)

pub returns-clause-grown : goal.returns-clause-grown
returns-clause-grown g c =
    let a = c.args.aim.now in
    let s = c.args.search.now in
    let first = c.first_tree.new.search in
    let tested = c.grow.new.search.known.tested in
    let told = c.in_ok-cheaper.ensures in
    let grown = subst (λ (handed : List CutLine). MatchOption c.in_ok-found.found
    (IsGrownTree (aimed a) a.plan.now handed tested c.args.limit c.grow.new.tree) (AreCheaperCounts (aimed a) a.plan.now.cost))
    (handed_same s first told.learned c.requires.search.inside) c.in_ok-found.ensures.grown in
    subst (λ (x : Growth). IsGrownTo (aimed a) a.plan.now (handed_in s) tested c.args.limit x) (sym c.growth_of.ensures)
    (grown_with (aimed a) a.plan.now (handed_in s) tested c.args.limit c.grow.new.tree c.in_ok-found.found grown)
