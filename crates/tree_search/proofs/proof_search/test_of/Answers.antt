use Rattle.std.proofs.Common.{◌≡◌, List, Some, slice_get, subst}
use Rattle.plan_terms.specs.Terms.{Routing, case_of}
use Rattle.tree_boxes.proofs.Lemmas.{plan_carries, routing_of_kept}
use Rattle.tree_search.proofs.proof_search.test_of.Goals as goal

pub new-requires-clause-each : goal.new-requires-clause-each
new-requires-clause-each c s r at =
    let p = case_of c.args.instance.now in
    routing_of_kept p _ (plan_carries p c.args.plan.now c.requires.demands c.requires.routed) s r
    (subst (λ (rs : List Routing). slice_get rs s ≡ Some r) c.in_ok-copy.ensures at)
