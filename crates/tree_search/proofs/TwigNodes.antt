-- trees on the way: their nodes, and what is known of these
use Rattle.std.proofs.Common.{◌≡◌, ℕ, zero, suc, ◌+◌, List, [], ◌∷◌, ◌++◌, Some, false, map, take, slice_get, refl, subst, sym}
use Rattle.tree_check.specs.Trees.{TreeBox, boxes_left, sides_of}
use Rattle.tree_boxes.{specs.Terms.{Node, Split, Closed, Empty, Spent, Stuck, is_split}, specs.declared.twigs.Twig.Twig}
use Rattle.tree_search.specs.inner.Places.{AreTwigsOf, twig_sides}

-- a node that isn't a split has no sides
pub leaf_sides : (box : TreeBox) (node : Node) → is_split node ≡ false → sides_of box node ≡ []
leaf_sides box (Split link at_module number) leaf = absurd (cc leaf)
leaf_sides box (Closed cert) leaf = refl
leaf_sides box (Empty cut) leaf = refl
leaf_sides box (Spent cert) leaf = refl
leaf_sides box (Stuck cert evidence) leaf = refl

-- nodes that places become, of which each has the sides of its place
module _ (node_for : Twig → Node) (same_sides : (box : TreeBox) (t : Twig) → sides_of box (node_for t) ≡ twig_sides box t) (is : TreeBox → Twig → Type 0) where
  -- the nodes of a tree on the way are a whole tree
  pub twigs_whole : (boxes : List TreeBox) (twigs : List Twig) → AreTwigsOf is boxes twigs → boxes_left boxes (map node_for twigs) ≡ []
  twigs_whole [] [] are = refl
  twigs_whole [] (t ∷ ts) are = absurd are
  twigs_whole (box ∷ boxes) [] are = absurd are
  twigs_whole (box ∷ boxes) (t ∷ ts) are =
      subst (λ (sides : List TreeBox). boxes_left (sides ++ boxes) (map node_for ts) ≡ []) (sym (same_sides box t)) (twigs_whole (twig_sides box t ++ boxes) ts are.1)

  -- the place that a node was
  pub record TwigAt (twigs : List Twig) (i : ℕ) (box : TreeBox) (node : Node) : Type 0 where
    pub twig : Twig
    pub at : slice_get twigs i ≡ Some twig
    pub same : node_for twig ≡ node
    pub here : is box twig

  pub twig_at : (boxes : List TreeBox) (twigs : List Twig) (i : ℕ) (box : TreeBox) (later : List TreeBox) (node : Node) → AreTwigsOf is boxes twigs
      → slice_get (map node_for twigs) i ≡ Some node → boxes_left boxes (take i (map node_for twigs)) ≡ box ∷ later → TwigAt twigs i box node
  twig_at boxes [] i box later node are at next = absurd (cc at)
  twig_at [] (t ∷ ts) i box later node are at next = absurd are
  twig_at (b ∷ bs) (t ∷ ts) zero box later node are at next =
      let same_box : b ≡ box = cc next in
      record { twig = t; at = refl; same = cc at; here = subst (λ (x : TreeBox). is x t) same_box are.0 }
  twig_at (b ∷ bs) (t ∷ ts) (suc i) box later node are at next =
      let here = subst (λ (sides : List TreeBox). boxes_left (sides ++ bs) (take i (map node_for ts)) ≡ box ∷ later) (same_sides b t) next in
      let there = twig_at (twig_sides b t ++ bs) ts i box later node are.1 at here in
      record { twig = there.twig; at = there.at; same = there.same; here = there.here }
