-- what an accepted proof says of able counts
use Rattle.std.proofs.Common.{◌≡◌, ℕ, ◌≤◌, List, [], ◌∷◌, ◌⊎◌, inl, inr, ⊎_elim, subst, arith}
use Rattle.net_core.proofs.Library.{All-from_recursion, slice_get_within, AllByRecursion}
use Rattle.plan_terms.specs.Terms.{Case, IsAble, total_cost}
use Rattle.line_check.{specs.Terms.{Multiplier, AreNamedBy, MeetsLine, WeightedLine, sources_of}, specs.declared.inequality.Inequality.Inequality, proofs.LinesMet.lines_are_met}
use Rattle.tree_check.{specs.Boxes.AreInBox, specs.BoxValues.HasBoxValue, specs.Laws.{CheapestHolds, IsSplitIfAny, OpenLeavesHold}, specs.Proofs.{HoldsNode, IsAcceptedProof, IsOpenAt, VerdictFollows, names_in_proof}, specs.Trees.{IsNodeOf, TreeBox, sides_of}, specs.declared.proof.BoxCert.BoxCert, specs.declared.proof.Node.Node, specs.declared.proof.Node.TheVariants.{Split, Closed, Empty, Spent, Stuck}, specs.declared.proof.Proof.Proof, specs.declared.proof.Verdict.TheVariants.{Cheapest, Above}, proofs.Covering.leaves_cover, proofs.EmptiedBoxes.emptied_has_none, proofs.Values.box_value_holds}

module _ (p : Case) (proof : Proof) (counts : List (List ℕ)) (able : IsAble p counts) where
  named_met : (i : ℕ) (line : Inequality) → names_in_proof p proof i line → MeetsLine p.links line counts
  named_met i line names = lines_are_met p (sources_of proof.cuts proof.lines) i line counts names able

  all_met : (ms : List Multiplier) (terms : List WeightedLine) → AreNamedBy (names_in_proof p proof) ms terms → AllByRecursion (λ t. MeetsLine p.links t.line counts) terms
  all_met [] [] named = tt
  all_met [] (t ∷ ts) named = absurd named
  all_met (m ∷ ms) [] named = absurd named
  all_met (m ∷ ms) (t ∷ ts) named = (named_met m.cut t.line named.0.0, all_met ms ts named.1)

  value_met : (box : TreeBox) (cert : BoxCert) (value : ℕ) → HasBoxValue (names_in_proof p proof) p.links box cert value → AreInBox box counts → value ≤ total_cost p.links counts
  value_met box cert value has within =
      box_value_holds p.links box cert.den has.terms value counts has.is able.shape within (All-from_recursion (λ t. MeetsLine p.links t.line counts) has.terms (all_met cert.lines has.terms has.named))

  -- the counts cost no less than the plan, or than the value of an open leaf
  module _ (accepted : IsAcceptedProof p proof) where
    node_holds : (i : ℕ) (box : TreeBox) (node : Node) → IsNodeOf p.links proof.tree i box node → HoldsNode (names_in_proof p proof) p proof.plan.cost box node
    node_holds i box node is_node =
        let known = accepted.hold i (slice_get_within proof.tree i node is_node.at) in
        let same_node : known.node ≡ node = let a = known.is_node.at in let b = is_node.at in cc (a, b) in
        let same_box : known.box ≡ box = let a = known.is_node.next in let b = is_node.next in cc (a, b) in
        subst (λ (n : Node). HoldsNode (names_in_proof p proof) p proof.plan.cost box n) same_node
        (subst (λ (b : TreeBox). HoldsNode (names_in_proof p proof) p proof.plan.cost b known.node) same_box known.holds)

    splits : (i : ℕ) (box : TreeBox) (node : Node) → IsNodeOf p.links proof.tree i box node → IsSplitIfAny box node
    splits i box node is_node = split_if_any box node (node_holds i box node is_node)
      where
        split_if_any : (box : TreeBox) (node : Node) → HoldsNode (names_in_proof p proof) p proof.plan.cost box node → IsSplitIfAny box node
        split_if_any box (Split link at_module number) holds = holds
        split_if_any box (Closed cert) holds = tt
        split_if_any box (Empty cut) holds = tt
        split_if_any box (Spent cert) holds = tt
        split_if_any box (Stuck cert evidence) holds = tt

    -- the value of an open leaf is at most what the counts cost
    record Opened : Type 0 where
      place : ℕ
      value : ℕ
      open_leaf : IsOpenAt p proof place value
      least : value ≤ total_cost p.links counts

    at_leaf : (i : ℕ) (box : TreeBox) (node : Node) → IsNodeOf p.links proof.tree i box node → HoldsNode (names_in_proof p proof) p proof.plan.cost box node → sides_of box node ≡ [] → AreInBox box counts
        → (proof.plan.cost ≤ total_cost p.links counts) ⊎ Opened
    at_leaf i box (Split link at_module number) is_node holds leaf within = absurd (cc leaf)
    at_leaf i box (Closed cert) is_node holds leaf within = inl (omega (arith, holds.reaches, value_met box cert holds.value holds.has within))
    at_leaf i box (Empty cut) is_node holds leaf within = absurd (emptied_has_none p.links box holds.0 counts holds.2 able.shape within (named_met cut holds.0 holds.1))
    at_leaf i box (Spent cert) is_node holds leaf within =
        inr (record { place = i; value = holds.0; open_leaf = record { box = box; node = Spent cert; is_node = is_node; has = holds.1 }; least = value_met box cert holds.0 holds.1 within })
    at_leaf i box (Stuck cert evidence) is_node holds leaf within =
        inr (record { place = i; value = holds.0.0; open_leaf = record { box = box; node = Stuck cert evidence; is_node = is_node; has = holds.0.1 }; least = value_met box cert holds.0.0 holds.0.1 within })

    in_the_end : (proof.plan.cost ≤ total_cost p.links counts) ⊎ Opened
    in_the_end =
        let leaf = leaves_cover p.links proof.tree counts accepted.whole splits able.shape in
        at_leaf leaf.place leaf.box leaf.node leaf.is_node (node_holds leaf.place leaf.box leaf.node leaf.is_node) leaf.leaf leaf.within

    cheapest : VerdictFollows p proof Cheapest → proof.plan.cost ≤ total_cost p.links counts
    cheapest closed = ⊎_elim (λ paid. paid) (λ (o : Opened). absurd (closed o.place o.value o.open_leaf)) in_the_end

    lowest : (least : ℕ) → VerdictFollows p proof (Above least) → least ≤ total_cost p.links counts
    lowest least is = ⊎_elim
        (λ (paid : proof.plan.cost ≤ total_cost p.links counts). omega (arith, is.at_most_cost))
        (λ (o : Opened). omega (arith, is.at_most_each o.place o.value o.open_leaf, o.least))
        in_the_end

pub cheapest_holds : CheapestHolds
cheapest_holds p proof counts accepted is able = cheapest p proof counts able accepted (subst (VerdictFollows p proof) is accepted.follows)

pub open_leaves_hold : OpenLeavesHold
open_leaves_hold p proof least counts accepted is able = lowest p proof counts able accepted least (subst (VerdictFollows p proof) is accepted.follows)
