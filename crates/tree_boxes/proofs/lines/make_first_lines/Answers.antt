use Rattle.std.proofs.Common.{◌≤◌, length, arith}
use Rattle.net_core.proofs.Library.{on_ok_weaker}
use Rattle.tree_boxes.{specs.Searches.most_entries, proofs.Extending.{learned_on, most_on}}
use Rattle.tree_boxes.proofs.lines.make_first_lines.Goals as goal

pub make_certified-requires-2-clause-room : goal.make_certified-requires-2-clause-room
make_certified-requires-2-clause-room c =
    let told = c.in_ok-make_coarse.ensures in
    omega (arith, most_on c.args.search.now c.make_coarse.new.search told.learned told.few, c.requires.room)

pub returns-clause-learned : goal.returns-clause-learned
returns-clause-learned c =
    on_ok_weaker c.make_certified-2.result (learned_on c.args.search.now c.make_coarse.new.search c.make_certified-2.new.search c.in_ok-make_coarse.ensures.learned)
    c.make_certified-2.ensures.learned

pub returns-clause-few : goal.returns-clause-few
returns-clause-few c =
    let told = c.in_ok-make_coarse.ensures in
    let most = most_on c.args.search.now c.make_coarse.new.search told.learned told.few in
    let long = length c.make_certified-2.new.search.known.entries in
    on_ok_weaker c.make_certified-2.result (λ (le : long ≤ most_entries c.make_coarse.new.search). omega (arith, le, most)) c.make_certified-2.ensures.few
