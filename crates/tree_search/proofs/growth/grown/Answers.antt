use Rattle.std.proofs.Common.{◌+◌, ◌*◌, ◌≤◌, List, IfOk, length, subst, arith}
use Rattle.net_core.proofs.Library.{on_ok_weaker}
use Rattle.plan_terms.specs.Terms.{CutLine}
use Rattle.tree_boxes.{specs.Searches.{aimed, most_entries}, proofs.Extending.{aim_on, handed_same, learned_on, most_on}}
use Rattle.tree_search.specs.inner.Growing.{IsGrownTo}
use Rattle.tree_search.proofs.growth.grown.Goals as goal

pub grown_on-requires-clause-aim : goal.grown_on-requires-clause-aim
grown_on-requires-clause-aim g c =
    aim_on c.args.aim.now c.args.search.now.known.entries c.make_first_lines.new.search.known.entries c.in_ok-make_first_lines.ensures.learned.extends c.requires.aim

pub grown_on-requires-clause-room : goal.grown_on-requires-clause-room
grown_on-requires-clause-room g c =
    let told = c.in_ok-make_first_lines.ensures in
    omega (arith, most_on c.args.search.now c.make_first_lines.new.search told.learned told.few, c.requires.room)

pub returns-clause-learned : goal.returns-clause-learned
returns-clause-learned g c =
    on_ok_weaker c.grown_on.result (learned_on c.args.search.now c.make_first_lines.new.search c.grown_on.new.search c.in_ok-make_first_lines.ensures.learned)
    c.grown_on.ensures.learned

pub returns-clause-few : goal.returns-clause-few
returns-clause-few g c =
    let told = c.in_ok-make_first_lines.ensures in
    let most = most_on c.args.search.now c.make_first_lines.new.search told.learned told.few in
    let long = length c.grown_on.new.search.known.entries in
    on_ok_weaker c.grown_on.result
    (λ (le : long ≤ most_entries c.make_first_lines.new.search + 2 * c.args.limit + 1). omega (arith, le, most))
    c.grown_on.ensures.few

pub returns-clause-grown : goal.returns-clause-grown
returns-clause-grown g c =
    let a = c.args.aim.now in
    subst (λ (handed : List CutLine). IfOk c.grown_on.result (IsGrownTo (aimed a) a.plan.now handed c.grown_on.new.search.known.tested c.args.limit))
    (handed_same c.args.search.now c.make_first_lines.new.search c.in_ok-make_first_lines.ensures.learned c.requires.search.inside)
    c.grown_on.ensures.grown
