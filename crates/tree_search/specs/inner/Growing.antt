-- growing trees: what is known at each of their places
use Rattle.std.specs.Prelude.{◌≡◌, ℕ, ◌+◌, ◌*◌, ◌^◌, ◌≤◌, ◌<◌, ◌⊎◌, List, [], ◌∷◌, Option, None, Some, length}
use Rattle.plan_terms.specs.Terms.{Case, CutLine, Link}
use Rattle.plan_types.specs.declared.plan.Plan.{Plan}
use Rattle.line_check.specs.Terms.{entry}
use Rattle.tree_check.specs.Terms.{IsSplitOf, lower_side, upper_side, whole_box, TreeBox, module_costs, Tested}
use Rattle.tree_boxes.{specs.Terms.{Split, AreCheaperCounts, IsFoundAt, IsTwigOf}, specs.declared.found.Cheaper.Cheaper, specs.declared.found.Found.Found, specs.declared.twigs.Twig.Twig}
use Rattle.tree_search.{specs.inner.Places.{AreSettled, AreTwigsOf, twig_splits}, specs.declared.choice.Choice.Choice, specs.declared.growth.Growth.Growth, specs.declared.growth.Sides.Sides, specs.declared.growth.Turn.Turn, specs.declared.tree.Tree.Tree}
use Rattle.tree_boxes.specs.declared.found.Found.TheVariants as found
use Rattle.tree_search.specs.declared.growth.Growth.TheVariants as growth
use Rattle.tree_search.specs.declared.growth.Sides.TheVariants as sides
use Rattle.tree_search.specs.declared.growth.Turn.TheVariants as turn

-- the places of a tree of the case with this number of splits
pub record IsGrowing (p : Case) (plan : Plan) (handed : List CutLine) (tested : List Tested) (n : ℕ) (twigs : List Twig) : Type 0 where
  pub placed : AreTwigsOf (IsTwigOf p plan handed tested n) (whole_box p.links ∷ []) twigs
  pub splits : twig_splits twigs ≡ n
  pub few : length twigs ≡ 2 * n + 1

-- a tree that is done: no place is open, or it has as many splits as the limit says
pub record IsGrownTree (p : Case) (plan : Plan) (handed : List CutLine) (tested : List Tested) (limit : ℕ) (tree : Tree) : Type 0 where
  pub n : ℕ
  pub growing : IsGrowing p plan handed tested n tree.twigs.items
  pub within : n ≤ limit
  pub ends : AreSettled tree.twigs.items ⊎ (n ≡ limit)

-- what comes of growing a tree
abbrev pub IsGrownTo : Case → Plan → List CutLine → List Tested → ℕ → Growth → Type 0
IsGrownTo p plan handed tested limit (growth.Tree tree) = IsGrownTree p plan handed tested limit tree
IsGrownTo p plan handed tested limit (growth.Cheaper c) = AreCheaperCounts p plan.cost c

-- the result of growing a tree, in which cheaper counts were found or weren't
abbrev pub growth_of : Tree → Option Cheaper → Growth
growth_of tree None = growth.Tree tree
growth_of tree (Some c) = growth.Cheaper c

-- a tree without a split, or cheaper counts
abbrev pub IsFirstTree : Case → Plan → List CutLine → List Tested → Growth → Type 0
IsFirstTree p plan handed tested (growth.Tree tree) = IsGrowing p plan handed tested 0 tree.twigs.items
IsFirstTree p plan handed tested (growth.Cheaper c) = AreCheaperCounts p plan.cost c

-- a box can be split at the choice: its number of modules costs less than the plan, and isn't large
pub record IsChoiceOf (links : List Link) (cost n : ℕ) (box : TreeBox) (c : Choice) : Type 0 where
  pub split : IsSplitOf box c.place.link c.place.module c.at
  pub cheap : entry (module_costs links) c.place.link c.place.module * c.at < cost
  pub low : c.at ≤ 2 ^ 44 + n

-- what comes of the two sides of a split
abbrev pub AreSidesOf : Case → Plan → List CutLine → List Tested → ℕ → TreeBox → Choice → Sides → Type 0
AreSidesOf p plan handed tested n box c (sides.Twigs lower upper) =
    IsFoundAt p plan handed tested n (lower_side box c.place.link c.place.module c.at) (found.Twig lower)
    × IsFoundAt p plan handed tested n (upper_side box c.place.link c.place.module c.at) (found.Twig upper)
AreSidesOf p plan handed tested n box c (sides.Cheaper cheaper) = AreCheaperCounts p plan.cost cheaper

-- what comes of a split whose first side left a twig
abbrev pub sides_with : Twig → Found → Sides
sides_with first (found.Twig second) = sides.Twigs first second
sides_with first (found.Cheaper cheaper) = sides.Cheaper cheaper

-- the outcome of a turn: a tree with one more split, one without open boxes, or cheaper counts
abbrev pub IsTurnTo : Case → Plan → List CutLine → List Tested → ℕ → List Twig → Turn → Type 0
IsTurnTo p plan handed tested n twigs turn.Split = IsGrowing p plan handed tested (n + 1) twigs
IsTurnTo p plan handed tested n twigs turn.Done = IsGrowing p plan handed tested n twigs × AreSettled twigs
IsTurnTo p plan handed tested n twigs (turn.Cheaper c) = AreCheaperCounts p plan.cost c
