use Rattle.std.proofs.Common.{◌∙◌, ◌≤◌, List, ap, length, arith}
use Rattle.net_core.proofs.Library.{on_ok_weaker}
use Rattle.line_maker.specs.declared.entry.Entry.{Entry}
use Rattle.tree_boxes.{specs.Searches.{aimed, most_entries}, proofs.Extending.{aside, aside_learned, aside_search, entries_most, learned_on, most_on}}
use Rattle.tree_boxes.proofs.lines.push_aside.Goals as goal

pub push_lines-requires-clause-search : goal.push_lines-requires-clause-search
push_lines-requires-clause-search c =
    let told = c.set_aside.ensures in
    aside_search c.args.search.now c.set_aside.new.self told.entries told.tested told.divides (aimed c.args.aim.now) c.requires.search

pub push_lines-requires-clause-room : goal.push_lines-requires-clause-room
push_lines-requires-clause-room c =
    let long = ap (λ (es : List Entry). length es) c.set_aside.ensures.entries in
    let room = c.requires.room in
    first_of (omega (arith, long, room), grind (arith, long, room))

pub push_lines-requires-clause-divides : goal.push_lines-requires-clause-divides
push_lines-requires-clause-divides c = c.set_aside.ensures.divides ∙ c.requires.divides

pub returns-clause-learned : goal.returns-clause-learned
returns-clause-learned c =
    let told = c.set_aside.ensures in
    let old = c.args.search.now in
    let k = c.set_aside.new.self in
    on_ok_weaker c.push_lines.result
    (learned_on old (aside old k told.entries told.tested told.divides) c.push_lines.new.search (aside_learned old k told.entries told.tested told.divides))
    c.push_lines.ensures.learned

pub returns-clause-few : goal.returns-clause-few
returns-clause-few c =
    let told = c.set_aside.ensures in
    let old = c.args.search.now in
    let k = c.set_aside.new.self in
    let most = most_on old (aside old k told.entries told.tested told.divides) (aside_learned old k told.entries told.tested told.divides)
    (omega (arith, entries_most old, ap (λ (es : List Entry). length es) told.entries)) in
    let long = length c.push_lines.new.search.known.entries in
    on_ok_weaker c.push_lines.result (λ (le : long ≤ most_entries (aside old k told.entries told.tested told.divides)). omega (arith, le, most)) c.push_lines.ensures.few
