use Rattle.std.proofs.Common.{◌≡◌, List, Some, slice_get, subst}
use Rattle.plan_terms.specs.Terms.{Routing, case_of}
use Rattle.plan_swaps.proofs.Swapped.{routing_of_kept}
use Rattle.plan_swaps.proofs.cheaper_plan.search_from.Goals as goal

pub new-requires-clause-each : goal.new-requires-clause-each
new-requires-clause-each c s r at =
    routing_of_kept (case_of c.args.instance.now) c.args.kept.now c.requires.kept s r
    (subst (λ (rs : List Routing). slice_get rs s ≡ Some r) c.in_ok-copy.ensures at)
