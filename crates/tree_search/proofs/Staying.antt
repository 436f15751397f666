-- what is known of the places of a tree stays where cuts and lines are put after
use Rattle.std.proofs.Common.{ℕ, ◌≤◌, List, [], ◌∷◌, arith}
use Rattle.plan_terms.specs.Terms.{Case, CutLine}
use Rattle.plan_types.specs.declared.plan.Plan.{Plan}
use Rattle.tree_check.specs.Terms.{whole_box, TreeBox, Tested}
use Rattle.tree_boxes.{specs.Terms.{Extends, IsTwigOf}, specs.declared.twigs.Twig.Twig, proofs.Extending.twig_on}
use Rattle.tree_search.{specs.inner.Growing.IsGrowing, specs.inner.Places.{AreTwigsOf, twig_sides}, proofs.Placing.placed_weaker}

module _ (p : Case) (plan : Plan) (old new : List Tested) (extends : Extends old new) where
  -- also where there are more splits
  pub twigs_on : (handed : List CutLine) (n m : ℕ) → n ≤ m → (boxes : List TreeBox) (twigs : List Twig)
      → AreTwigsOf (IsTwigOf p plan handed old n) boxes twigs → AreTwigsOf (IsTwigOf p plan handed new m) boxes twigs
  twigs_on handed n m le boxes twigs are =
      placed_weaker twig_sides (IsTwigOf p plan handed old n) (IsTwigOf p plan handed new m) (twig_on p plan old new extends handed n m le) boxes twigs are

  pub growing_on : (handed : List CutLine) (n : ℕ) (twigs : List Twig) → IsGrowing p plan handed old n twigs → IsGrowing p plan handed new n twigs
  growing_on handed n twigs is = record {
    placed = twigs_on handed n n (omega arith) (whole_box p.links ∷ []) twigs is.placed;
    splits = is.splits;
    few = is.few;
  }
