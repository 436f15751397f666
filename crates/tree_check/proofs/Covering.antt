-- the leaves of a tree cover all counts
use Rattle.std.proofs.Common.{◌≡◌, ℕ, suc, List, [], ◌∷◌, ◌++◌, Some, ◌⊎◌, inl, inr, ⊎_elim, take, slice_get, refl}
use Rattle.tree_check.{specs.Boxes.{AreInBox, whole_box}, specs.Laws.{IsSplitIfAny, LeavesCover}, specs.Trees.{TreeBox, boxes_left, sides_of}, specs.declared.proof.Node.Node, specs.declared.proof.Node.TheVariants.{Split, Closed, Empty, Spent, Stuck}, proofs.InBoxes.{in_whole_box, on_a_side}}

-- some box of a list has the counts
abbrev InSome : List (List ℕ) → List TreeBox → Type 0
InSome counts [] = ⊥
InSome counts (box ∷ boxes) = AreInBox box counts ⊎ InSome counts boxes

in_more : (counts : List (List ℕ)) (first boxes : List TreeBox) → InSome counts boxes → InSome counts (first ++ boxes)
in_more counts [] boxes some = some
in_more counts (box ∷ first) boxes some = inr (in_more counts first boxes some)

-- node i of those that take these boxes in turn, and its box
record Takes (boxes : List TreeBox) (nodes : List Node) (i : ℕ) (box : TreeBox) (node : Node) : Type 0 where
  at : slice_get nodes i ≡ Some node
  later : List TreeBox
  next : boxes_left boxes (take i nodes) ≡ box ∷ later

record InLeaf (boxes : List TreeBox) (nodes : List Node) (counts : List (List ℕ)) : Type 0 where
  place : ℕ
  box : TreeBox
  node : Node
  takes : Takes boxes nodes place box node
  leaf : sides_of box node ≡ []
  within : AreInBox box counts

one_later : (counts : List (List ℕ)) (box : TreeBox) (boxes : List TreeBox) (node : Node) (nodes : List Node)
    → InLeaf (sides_of box node ++ boxes) nodes counts → InLeaf (box ∷ boxes) (node ∷ nodes) counts
one_later counts box boxes node nodes f = record {
  place = suc f.place;
  box = f.box;
  node = f.node;
  takes = record { at = f.takes.at; later = f.takes.later; next = f.takes.next };
  leaf = f.leaf;
  within = f.within;
}

here : (counts : List (List ℕ)) (box : TreeBox) (boxes : List TreeBox) (node : Node) (nodes : List Node)
    → sides_of box node ≡ [] → AreInBox box counts → InLeaf (box ∷ boxes) (node ∷ nodes) counts
here counts box boxes node nodes leaf within = record {
  place = 0;
  box = box;
  node = node;
  takes = record { at = refl; later = boxes; next = refl };
  leaf = leaf;
  within = within;
}

-- a node is a leaf, or one of its sides has the counts of its box
leaf_or_side : (counts : List (List ℕ)) (box : TreeBox) (node : Node) → IsSplitIfAny box node → AreInBox box counts → (sides_of box node ≡ []) ⊎ InSome counts (sides_of box node)
leaf_or_side counts box (Split link at_module number) split within = ⊎_elim
    (λ low. inr (inl low))
    (λ high. inr (inr (inl high)))
    (on_a_side box counts link.0 at_module number split within)
leaf_or_side counts box (Closed cert) split within = inl refl
leaf_or_side counts box (Empty cut) split within = inl refl
leaf_or_side counts box (Spent cert) split within = inl refl
leaf_or_side counts box (Stuck cert evidence) split within = inl refl

in_first : (counts : List (List ℕ)) (first boxes : List TreeBox) → InSome counts first → InSome counts (first ++ boxes)
in_first counts [] boxes some = absurd some
in_first counts (box ∷ first) boxes (inl is) = inl is
in_first counts (box ∷ first) boxes (inr some) = inr (in_first counts first boxes some)

covered : (counts : List (List ℕ)) (boxes : List TreeBox) (nodes : List Node) → boxes_left boxes nodes ≡ []
    → ((i : ℕ) (box : TreeBox) (node : Node) → Takes boxes nodes i box node → IsSplitIfAny box node)
    → InSome counts boxes → InLeaf boxes nodes counts
covered counts [] nodes whole splits some = absurd some
covered counts (box ∷ boxes) [] whole splits some = absurd (cc whole)
covered counts (box ∷ boxes) (node ∷ nodes) whole splits some =
    let split = splits 0 box node (record { at = refl; later = boxes; next = refl }) in
    let rest : InSome counts (sides_of box node ++ boxes) → InLeaf (box ∷ boxes) (node ∷ nodes) counts = λ more.
    one_later counts box boxes node nodes (covered counts (sides_of box node ++ boxes) nodes whole (λ i b n t. splits (suc i) b n (record { at = t.at; later = t.later; next = t.next })) more) in
    ⊎_elim
    (λ within. ⊎_elim
    (λ leaf. here counts box boxes node nodes leaf within)
    (λ side. rest (in_first counts (sides_of box node) boxes side))
    (leaf_or_side counts box node split within))
    (λ others. rest (in_more counts (sides_of box node) boxes others))
    some

pub leaves_cover : LeavesCover
leaves_cover links tree counts whole splits shape =
    let found = covered counts (whole_box links ∷ []) tree whole (λ i box node t. splits i box node (record { at = t.at; later = t.later; next = t.next })) (inl (in_whole_box links counts shape)) in
    record {
      place = found.place;
      box = found.box;
      node = found.node;
      is_node = record { at = found.takes.at; later = found.takes.later; next = found.takes.next };
      leaf = found.leaf;
      within = found.within;
    }
