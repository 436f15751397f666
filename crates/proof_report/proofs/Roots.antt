-- a tree without splits is its root alone
use Rattle.std.proofs.Common.{◌≡◌, ◌+◌, ◌≤◌, ◌<◌, List, [], ◌∷◌, ◌++◌, arith, length, refl, subst, take}
use Rattle.plan_terms.specs.Terms.{Case, Link}
use Rattle.tree_search.{specs.Terms.{HoldsAtNode, IsAcceptedProof, whole_box, IsWhole, TreeBox, boxes_left, sides_of, Node, Split, Closed, Empty, Spent, Stuck, Proof}, specs.FewSplits.split_number, proofs.Lemmas.splits_more}

-- the first node has no sides
first_leaf : (node : Node) (nodes : List Node) (box : TreeBox) → split_number (node ∷ nodes) ≤ 0 → sides_of box node ≡ []
first_leaf (Split link at_module number) nodes box none =
    absurd (omega (arith, none, splits_more (Split link at_module number) nodes))
first_leaf (Closed cert) nodes box none = refl
first_leaf (Empty cut) nodes box none = refl
first_leaf (Spent cert) nodes box none = refl
first_leaf (Stuck cert evidence) nodes box none = refl

-- a box of the second node
abbrev HasSecond : List Link → List Node → Type 0
HasSecond links tree = (box : TreeBox) × (later : List TreeBox) × (boxes_left (whole_box links ∷ []) (take 1 tree) ≡ box ∷ later)

one_node : (links : List Link) (tree : List Node) → split_number tree ≤ 0 → IsWhole links tree → (1 < length tree → HasSecond links tree) → length tree ≡ 1
one_node links [] none whole second = absurd (cc whole)
one_node links (node ∷ []) none whole second = refl
one_node links (node ∷ other ∷ more) none whole second =
    let next = (second (omega arith)).2 in
    let left : [] ≡ (second (omega arith)).0 ∷ (second (omega arith)).1 =
    subst (λ (sides : List TreeBox). sides ++ [] ≡ (second (omega arith)).0 ∷ (second (omega arith)).1) (first_leaf node (other ∷ more) (whole_box links) none) next in
    absurd (cc left)

pub root_alone : (p : Case) (proof : Proof) → IsAcceptedProof p proof → split_number proof.tree ≤ 0 → length proof.tree ≡ 1
root_alone p proof accepted none =
    one_node p.links proof.tree none accepted.whole
    (λ (lt : 1 < length proof.tree). let holds : HoldsAtNode p proof 1 = accepted.hold 1 lt in (holds.box, holds.is_node.later, holds.is_node.next))
