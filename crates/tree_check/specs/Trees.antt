-- branch trees in preorder: which box each node has
use Rattle.std.specs.Prelude.{◌≡◌, ℕ, List, [], ◌∷◌, ◌++◌, Some, slice_get, take}
use Rattle.plan_terms.specs.Terms.{Link}
use Rattle.tree_check.{specs.Boxes.{lower_side, upper_side, whole_box}, specs.declared.boxes.Span.Span, specs.declared.proof.Node.Node, specs.declared.proof.Node.TheVariants.Split}

-- a box, as a list of spans for each link
abbrev pub TreeBox : Type 0
TreeBox = List (List Span)

-- the boxes of the two sides of a split; a leaf has none
abbrev pub sides_of : TreeBox → Node → List TreeBox
sides_of box (Split link at_module number) = lower_side box link.0 at_module number ∷ upper_side box link.0 at_module number ∷ []
sides_of box _ = []

-- The boxes that no node has yet, the next one first, where nodes in preorder take them in turn: a split leaves its two sides in its box's place.
abbrev pub boxes_left : List TreeBox → List Node → List TreeBox
boxes_left boxes [] = boxes
boxes_left [] (node ∷ nodes) = []
boxes_left (box ∷ boxes) (node ∷ nodes) = boxes_left (sides_of box node ++ boxes) nodes

-- node i of the tree that begins the list, and its box
pub record IsNodeOf (links : List Link) (tree : List Node) (i : ℕ) (box : TreeBox) (node : Node) : Type 0 where
  pub at : slice_get tree i ≡ Some node
  pub later : List TreeBox
  pub next : boxes_left (whole_box links ∷ []) (take i tree) ≡ box ∷ later

-- no node of the tree is missing
abbrev pub IsWhole : List Link → List Node → Type 0
IsWhole links tree = boxes_left (whole_box links ∷ []) tree ≡ []
