use Rattle.std.proofs.Common.{◌≤◌, List, IfOk, length, subst, sym, arith}
use Rattle.net_core.proofs.Library.{on_ok_weaker}
use Rattle.plan_terms.specs.Terms.{CutLine}
use Rattle.tree_boxes.{specs.Causes.IsUnsettled, specs.Finds.IsFoundAt, specs.Searches.{aimed, most_entries}, proofs.Extending.{aim_on, handed_same, learned_on, most_on, valued_on}}
use Rattle.tree_boxes.proofs.evaluation.look_divided.Goals as goal

pub look_open-requires-2-clause-aim : goal.look_open-requires-2-clause-aim
look_open-requires-2-clause-aim c =
    aim_on c.args.aim.now c.args.search.now.known.entries c.make_box_lines.new.search.known.entries c.in_ok-make_box_lines.ensures.learned.extends c.requires.aim

pub look_open-requires-2-clause-room : goal.look_open-requires-2-clause-room
look_open-requires-2-clause-room c =
    let told = c.in_ok-make_box_lines.ensures in
    omega (arith, most_on c.args.search.now c.make_box_lines.new.search told.learned told.few, c.requires.room)

pub look_open-requires-2-clause-valued : goal.look_open-requires-2-clause-valued
look_open-requires-2-clause-valued c =
    let a = c.args.aim.now in
    valued_on (aimed a) a.plan.now c.args.search.now.known.tested c.make_box_lines.new.search.known.tested c.in_ok-make_box_lines.ensures.learned.tested
    c.args.boxed c.args.best c.requires.valued

pub look_open-requires-2-clause-unsettled : goal.look_open-requires-2-clause-unsettled
look_open-requires-2-clause-unsettled c =
    let a = c.args.aim.now in
    subst (λ (handed : List CutLine). IsUnsettled (aimed a).links a.plan.now handed c.args.boxed)
    (sym (handed_same c.args.search.now c.make_box_lines.new.search c.in_ok-make_box_lines.ensures.learned c.requires.search.inside))
    c.requires.unsettled

pub returns-clause-learned : goal.returns-clause-learned
returns-clause-learned c =
    on_ok_weaker c.look_open-2.result (learned_on c.args.search.now c.make_box_lines.new.search c.look_open-2.new.search c.in_ok-make_box_lines.ensures.learned)
    c.look_open-2.ensures.learned

pub returns-clause-few : goal.returns-clause-few
returns-clause-few c =
    let told = c.in_ok-make_box_lines.ensures in
    let most = most_on c.args.search.now c.make_box_lines.new.search told.learned told.few in
    let long = length c.look_open-2.new.search.known.entries in
    on_ok_weaker c.look_open-2.result (λ (le : long ≤ most_entries c.make_box_lines.new.search). omega (arith, le, most)) c.look_open-2.ensures.few

pub returns-clause-found : goal.returns-clause-found
returns-clause-found c =
    let a = c.args.aim.now in
    subst (λ (handed : List CutLine). IfOk c.look_open-2.result (IsFoundAt (aimed a) a.plan.now handed c.look_open-2.new.search.known.tested c.args.depth c.args.boxed))
    (handed_same c.args.search.now c.make_box_lines.new.search c.in_ok-make_box_lines.ensures.learned c.requires.search.inside)
    c.look_open-2.ensures.found
