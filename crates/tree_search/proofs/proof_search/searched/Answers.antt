use Rattle.std.proofs.Common.{List, All, Contains, map, subst, sym}
use Rattle.plan_terms.specs.Terms.{CutLine}
use Rattle.tree_boxes.specs.Searches.{IsOwnCert}
use Rattle.tree_boxes.specs.Terms.entry
use Rattle.tree_search.proofs.proof_search.searched.Goals as goal

pub own_cert-requires-clause-own : goal.own_cert-requires-clause-own
own_cert-requires-clause-own g c = subst (λ (cuts : List CutLine). All (λ l. Contains cuts l.cut) c.args.plan.certificate.lines) (sym c.items.ensures) c.requires.cuts.own

pub searched_from-requires-clause-own : goal.searched_from-requires-clause-own
searched_from-requires-clause-own g c =
    let own : IsOwnCert (map entry.Cut c.items.result.now) c.args.plan c.in-Ok.own = rw c.in-Ok.is at c.own_cert.ensures in
    subst (λ (cuts : List CutLine). IsOwnCert (map entry.Cut cuts) c.args.plan c.in-Ok.own) c.items.ensures own
