use Rattle.std.proofs.Common.{List, IfOk, refl, subst, sym}
use Rattle.plan_terms.specs.Terms.{Demand, IsSurvivable, case}
use Rattle.plan_types.specs.Terms.{IsCertifiedPlan}
use Rattle.tree_boxes.specs.Terms.{IsRoutedPlan}
use Rattle.tree_search.specs.Proving.{AreHandedCuts, IsProofOf, ShowsBound, ShowsCheapest}
use Rattle.tree_search.proofs.proof_search.prove.Goals as goal

pub prove_instance-requires-clause-survivable : goal.prove_instance-requires-clause-survivable
prove_instance-requires-clause-survivable g c =
    subst (λ (ds : List Demand). IsSurvivable (case c.args.net.now c.args.states.now ds)) (sym c.in_ok-demands.ensures) c.requires.survivable

pub prove_instance-requires-clause-demands : goal.prove_instance-requires-clause-demands
prove_instance-requires-clause-demands g c = sym c.in_ok-demands.ensures

pub prove_instance-requires-clause-routed : goal.prove_instance-requires-clause-routed
prove_instance-requires-clause-routed g c =
    subst (λ (ds : List Demand). IsRoutedPlan (case c.args.net.now c.args.states.now ds) c.args.plan) (sym c.in_ok-demands.ensures) c.requires.routed

pub prove_instance-requires-clause-certified : goal.prove_instance-requires-clause-certified
prove_instance-requires-clause-certified g c =
    subst (λ (ds : List Demand). IsCertifiedPlan (case c.args.net.now c.args.states.now ds) c.args.plan) (sym c.in_ok-demands.ensures) c.requires.certified

pub prove_instance-requires-clause-cuts : goal.prove_instance-requires-clause-cuts
prove_instance-requires-clause-cuts g c =
    subst (λ (ds : List Demand). AreHandedCuts (case c.args.net.now c.args.states.now ds) c.args.plan c.args.cuts) (sym c.in_ok-demands.ensures) c.requires.cuts

pub returns-clause-proof : goal.returns-clause-proof
returns-clause-proof g c =
    subst (λ (ds : List Demand). IfOk c.prove_instance.result (IsProofOf (case c.args.net.now c.args.states.now ds) c.args.plan c.args.cuts c.args.limit))
    c.in_ok-demands.ensures c.prove_instance.ensures.proof

pub returns-clause-lines : goal.returns-clause-lines
returns-clause-lines g c = c.prove_instance.ensures.lines refl

pub returns-clause-cheapest : goal.returns-clause-cheapest
returns-clause-cheapest g c =
    subst (λ (ds : List Demand). IfOk c.prove_instance.result (ShowsCheapest (case c.args.net.now c.args.states.now ds))) c.in_ok-demands.ensures c.prove_instance.ensures.cheapest

pub returns-clause-above : goal.returns-clause-above
returns-clause-above g c =
    subst (λ (ds : List Demand). IfOk c.prove_instance.result (ShowsBound (case c.args.net.now c.args.states.now ds))) c.in_ok-demands.ensures c.prove_instance.ensures.above
