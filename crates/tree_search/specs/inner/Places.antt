-- places of growing trees, and their boxes
use Rattle.std.specs.Prelude.{◌≡◌, ℕ, List, Some, count_by, slice_get}
use Rattle.tree_check.specs.Trees.{TreeBox, sides_of}
use Rattle.tree_boxes.{specs.Finds.{is_split, twig_node}, specs.declared.twigs.OpenBox.OpenBox, specs.declared.twigs.Twig.Twig}
use Rattle.tree_search.specs.inner.Preorder.{ArePlaced}
use Rattle.tree_boxes.specs.declared.twigs.Twig.TheVariants as twig

-- the boxes of the two sides, if the place is a split
abbrev pub twig_sides : TreeBox → Twig → List TreeBox
twig_sides box t = sides_of box (twig_node t)

-- places in preorder that take these boxes in turn, and use them up
abbrev pub AreTwigsOf : (TreeBox → Twig → Type 0) → List TreeBox → List Twig → Type 0
AreTwigsOf = ArePlaced twig_sides

-- how many of the places are splits
abbrev pub twig_splits : List Twig → ℕ
twig_splits twigs = count_by (λ t. is_split (twig_node t)) twigs

-- the place is an open box
abbrev pub IsOpenTwig : Twig → Type 0
IsOpenTwig (twig.Settled node) = ⊥
IsOpenTwig (twig.Stuck v evidence) = ⊥
IsOpenTwig (twig.Open o) = Unit {0}

-- at this index there is an open box
pub record IsOpenPlace (twigs : List Twig) (i : ℕ) : Type 0 where
  pub opened : OpenBox
  pub at : slice_get twigs i ≡ Some (twig.Open opened)

-- no place is open
abbrev pub AreSettled : List Twig → Type 0
AreSettled twigs = (i : ℕ) → IsOpenPlace twigs i → ⊥
