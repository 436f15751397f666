use Rattle.std.proofs.Common.{◌≡◌, ◌+◌, ◌*◌, ◌≤◌, Bool, List, IfOk, length, map, subst, sym}
use Rattle.plan_terms.specs.Terms.{CutLine, case_of}
use Rattle.tree_boxes.specs.Searches.{IsOwnCert, handed_in}
use Rattle.tree_search.specs.inner.Making.{IsProofWith}
use Rattle.tree_boxes.specs.Terms.entry
use Rattle.tree_search.proofs.proof_search.searched_from.Goals as goal

pub proved-requires-clause-own : goal.proved-requires-clause-own
proved-requires-clause-own g c =
    let handed : handed_in c.in-Ok.search ≡ c.args.cuts = rw c.in-Ok.is at c.first_search.ensures.handed in
    subst (λ (cuts : List CutLine). IsOwnCert (map entry.Cut cuts) c.args.plan c.args.own.now) (sym handed) c.requires.own

pub proved-requires-clause-room : goal.proved-requires-clause-room
proved-requires-clause-room g c =
    let handed : handed_in c.in-Ok.search ≡ c.args.cuts = rw c.in-Ok.is at c.first_search.ensures.handed in
    let room : c.in-Ok.search.room ≤ 3 * length c.args.cuts + 6144 = rw c.in-Ok.is at c.first_search.ensures.room in
    subst (λ (cuts : List CutLine). c.in-Ok.search.room ≤ 3 * length cuts + 6144) (sym handed) room

pub returns-in-Ok : goal.returns-in-Ok
returns-in-Ok g c =
    let p = case_of c.args.instance.now in
    let search = c.in-Ok.search in
    let handed : handed_in search ≡ c.args.cuts = rw c.in-Ok.is at c.first_search.ensures.handed in
    let divides : search.known.divides ≡ c.args.divides = rw c.in-Ok.is at c.first_search.ensures.divides in
    subst (λ (cuts : List CutLine). IfOk c.proved.result (IsProofWith p c.args.divides c.args.plan cuts c.args.limit)) handed
    (subst (λ (b : Bool). IfOk c.proved.result (IsProofWith p b c.args.plan (handed_in search) c.args.limit)) divides c.proved.ensures)
