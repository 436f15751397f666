use Rattle.std.proofs.Common.{List, ap, arith, length}
use Rattle.net_core.proofs.Library.{length-map}
use Rattle.plan_terms.specs.Terms.{case_of}
use Rattle.tree_boxes.specs.Terms.{Entry}
use Rattle.tree_search.proofs.Restarts.{first_cuts, first_search}
use Rattle.tree_boxes.specs.Terms.entry
use Rattle.tree_search.proofs.proof_search.first_search.Goals as goal

pub room_for-requires : goal.room_for-requires
room_for-requires c = let long = c.len-handed.ensures in let few = c.requires.cuts.few in omega (arith, long, few)

pub returns-clause-search : goal.returns-clause-search
returns-clause-search c =
    let told = c.in_ok-known.ensures in
    first_search (case_of c.args.instance.now) _ c.args.cuts told.known c.in_ok-test.ensures told.entries (let long = c.len-handed.ensures in omega (arith, long)) c.requires.cuts.few
    c.room_for.ensures.enough c.room_for.ensures.small

pub returns-clause-handed : goal.returns-clause-handed
returns-clause-handed c =
    let told = c.in_ok-known.ensures in
    first_cuts (record { known = c.in_ok-known.known; test = c.in_ok-test.test; handed = c.len-handed.result; room = c.room_for.result }) c.args.cuts told.entries
    (let long = c.len-handed.ensures in omega (arith, long))

pub returns-clause-few : goal.returns-clause-few
returns-clause-few c =
    let long = c.len-handed.ensures in
    let enough = c.room_for.ensures.enough in
    omega (arith, long, enough, ap (λ (es : List Entry). length es) c.in_ok-known.ensures.entries, length-map c.args.cuts entry.Cut)

pub returns-clause-room : goal.returns-clause-room
returns-clause-room c =
    let long = c.len-handed.ensures in
    let thrice = c.room_for.ensures.thrice in
    omega (arith, long, thrice)
