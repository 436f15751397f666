use Rattle.std.proofs.Common.{length, subst}
use Rattle.plan_terms.specs.Terms.{Graph, Joins}
use Rattle.failure_states.{specs.inner.Components.AreComponents, proofs.Splits.answer_separates}
use Rattle.failure_states.proofs.separations.first_in_state.Goals as goal

pub returns-clause-first : goal.returns-clause-first
returns-clause-first c =
    let are = subst (λ (g : Graph). AreComponents (Joins g) (length g.nodes) (length g.links) c.label_components.new.labels) c.in_state.ensures.graph c.label_components.ensures in
    answer_separates _ _ _ _ are c.args.instance.now.belong _ (rw c.items.ensures at c.first_split.ensures)
