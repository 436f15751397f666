-- trees with another place, or with one split more
use Rattle.std.{proofs.Common.{◌≡◌, ℕ, zero, suc, ◌+◌, ◌<◌, cond, MatchOption, None, Option, List, [], ◌∷◌, ◌++◌, Some, Bool, drop, get_or, insert, length, set, slice_get, take, refl, ap, sym, subst, add-one, arith, length-append}, proofs.lemmas.List.set_split}
use Rattle.net_core.proofs.Library.{slice_get_read, slice_get_within, sum_by-append, sum_by-cons}
use Rattle.plan_terms.specs.Terms.{Case, CutLine}
use Rattle.plan_types.specs.declared.plan.Plan.{Plan}
use Rattle.tree_check.specs.Terms.{IsSplitOf, lower_side, upper_side, whole_box, TreeBox, Tested}
use Rattle.tree_boxes.{specs.Terms.{AreCheaperCounts, Split, is_split, IsOpenBox, IsTwigOf, IsLeafTwig, twig_node}, specs.declared.found.Cheaper.Cheaper, specs.declared.twigs.OpenBox.OpenBox, specs.declared.twigs.Twig.Twig, proofs.Extending.extends_none}
use Rattle.tree_search.{specs.inner.Growing.{AreSidesOf, IsChoiceOf, IsGrowing, IsGrownTo, IsGrownTree, growth_of}, specs.inner.Places.{AreTwigsOf, IsOpenPlace, twig_sides, twig_splits}, specs.declared.choice.Choice.Choice, specs.declared.tree.Tree.Tree, proofs.Staying.twigs_on, proofs.Placing.place_of, proofs.TwigNodes.leaf_sides}
use Rattle.tree_boxes.specs.declared.found.Found.TheVariants as found
use Rattle.tree_search.specs.declared.growth.Sides.TheVariants as sides
use Rattle.tree_boxes.specs.declared.twigs.Twig.TheVariants as twig

-- ---- lists

module _ {T : Type 0} where
  -- a list consists of the items before one of its items, that item, and the items after it
  parts_at : (ts : List T) (i : ℕ) (t : T) → slice_get ts i ≡ Some t → ts ≡ take i ts ++ t ∷ drop (suc i) ts
  parts_at [] i t at = absurd (cc at)
  parts_at (x ∷ xs) zero t at = let same : x ≡ t = cc at in ap (λ (y : T). y ∷ xs) same
  parts_at (x ∷ xs) (suc i) t at = ap (λ (l : List T). x ∷ l) (parts_at xs i t at)

  insert_parts : (ts : List T) (i : ℕ) (top lower upper : T) → i < length ts → set (insert (insert ts (suc i) upper) (suc i) lower) i top ≡ take i ts ++ top ∷ lower ∷ upper ∷ drop (suc i) ts
  insert_parts [] i top lower upper lt = absurd (omega (arith, lt))
  insert_parts (x ∷ xs) zero top lower upper lt = refl
  insert_parts (x ∷ xs) (suc i) top lower upper lt = ap (λ (l : List T). x ∷ l) (insert_parts xs i top lower upper (omega (arith, lt)))

-- the open box that is read at a place
pub read_open : (ts : List Twig) (i : ℕ) (t : Twig) (o : OpenBox) → i < length ts → t ≡ get_or ts i t → t ≡ twig.Open o → slice_get ts i ≡ Some (twig.Open o)
read_open ts i t o lt read is = slice_get_read ts (length ts) i (twig.Open o) refl lt (subst (λ (x : Twig). x ≡ get_or ts i x) is read)

-- ---- numbers of places and splits

abbrev split_count : Twig → ℕ
split_count t = cond (is_split (twig_node t)) 1 0

no_split : (t : Twig) → IsLeafTwig t → split_count t ≡ 0
no_split t leaf = ap (λ (b : Bool). cond b 1 0) leaf

splits_cons : (t : Twig) (ts : List Twig) → twig_splits (t ∷ ts) ≡ split_count t + twig_splits ts
splits_cons t ts = sum_by-cons (λ (x : Twig). cond (is_split (twig_node x)) 1 0) t ts

splits_append : (ts us : List Twig) → twig_splits (ts ++ us) ≡ twig_splits ts + twig_splits us
splits_append ts us = sum_by-append (λ (x : Twig). cond (is_split (twig_node x)) 1 0) ts us

-- ---- trees

module _ (p : Case) (plan : Plan) (handed : List CutLine) (tested : List Tested) where
  -- the tree of one place
  pub root_growing : (root : Twig) → IsTwigOf p plan handed tested 0 (whole_box p.links) root → IsLeafTwig root → IsGrowing p plan handed tested 0 (root ∷ [])
  root_growing root is leaf = record {
    placed = (is, subst (λ (boxes : List TreeBox). AreTwigsOf (IsTwigOf p plan handed tested 0) (boxes ++ []) []) (sym (leaf_sides (whole_box p.links) (twig_node root) leaf)) tt);
    splits = omega (arith, splits_cons root [], no_split root leaf);
    few = refl;
  }

  module _ (n i : ℕ) (twigs : List Twig) (o : OpenBox) (at : slice_get twigs i ≡ Some (twig.Open o)) (growing : IsGrowing p plan handed tested n twigs) where
    -- what is known of an open box
    open_known : IsOpenBox p plan handed tested n o.boxed o
    open_known =
        let found = place_of twig_sides (IsTwigOf p plan handed tested n) (whole_box p.links ∷ []) twigs i (twig.Open o) growing.placed at in
        let here : IsOpenBox p plan handed tested n found.0.place o = found.0.here in
        subst (λ (box : TreeBox). IsOpenBox p plan handed tested n box o) (sym here.same) here

    -- an open box becomes what was found anew
    pub twig_growing : (new : Twig) → IsTwigOf p plan handed tested n o.boxed new → IsLeafTwig new → IsGrowing p plan handed tested n (set twigs i new)
    twig_growing new is leaf =
        let known = IsTwigOf p plan handed tested n in
        let found = place_of twig_sides known (whole_box p.links ∷ []) twigs i (twig.Open o) growing.placed at in
        let place = found.0.place in
        let later = found.0.later in
        let rest = drop (suc i) twigs in
        let here : IsOpenBox p plan handed tested n place o = found.0.here in
        let now : known place new = subst (λ (box : TreeBox). known box new) here.same is in
        let after : AreTwigsOf known (twig_sides place new ++ later) rest =
        subst (λ (boxes : List TreeBox). AreTwigsOf known (boxes ++ later) rest) (sym (leaf_sides place (twig_node new) leaf)) found.0.after in
        let inside = slice_get_within twigs i (twig.Open o) at in
        let whole = parts_at twigs i (twig.Open o) at in
        let parts = set_split twigs i new inside in
        let splits = growing.splits in
        let few = growing.few in
        record {
          placed = subst (λ (ts : List Twig). AreTwigsOf known (whole_box p.links ∷ []) ts) (sym parts) (found.1 (new ∷ rest) (now, after));
          splits = omega (
            arith,
            splits,
            ap twig_splits parts,
            ap twig_splits whole,
            splits_append (take i twigs) (new ∷ rest),
            splits_append (take i twigs) (twig.Open o ∷ rest),
            splits_cons new rest,
            splits_cons (twig.Open o) rest,
            no_split new leaf,
          );
          few = omega (
            arith,
            few,
            ap (λ (ts : List Twig). length ts) parts,
            ap (λ (ts : List Twig). length ts) whole,
            length-append (take i twigs) (new ∷ rest),
            length-append (take i twigs) (twig.Open o ∷ rest),
          );
        }

    -- an open box is split
    pub split_growing : (c : Choice) (lower upper : Twig) → IsChoiceOf p.links plan.cost n o.boxed c → AreSidesOf p plan handed tested (n + 1) o.boxed c (sides.Twigs lower upper)
        → IsGrowing p plan handed tested (n + 1) (set (insert (insert twigs (i + 1) upper) (i + 1) lower) i (twig.Settled (Split (record { 0 = c.place.link }) c.place.module c.at)))
    split_growing c lower upper choice found_sides =
        let known = IsTwigOf p plan handed tested (n + 1) in
        let placed : AreTwigsOf known (whole_box p.links ∷ []) twigs =
        twigs_on p plan tested tested (extends_none tested) handed n (n + 1) (omega arith) (whole_box p.links ∷ []) twigs growing.placed in
        let found = place_of twig_sides known (whole_box p.links ∷ []) twigs i (twig.Open o) placed at in
        let place = found.0.place in
        let later = found.0.later in
        let rest = drop (suc i) twigs in
        let here : IsOpenBox p plan handed tested (n + 1) place o = found.0.here in
        let top = twig.Settled (Split (record { 0 = c.place.link }) c.place.module c.at) in
        let low_box = lower_side place c.place.link c.place.module c.at in
        let high_box = upper_side place c.place.link c.place.module c.at in
        let split : IsSplitOf place c.place.link c.place.module c.at = subst (λ (box : TreeBox). IsSplitOf box c.place.link c.place.module c.at) here.same choice.split in
        let below : known low_box lower = subst (λ (box : TreeBox). known (lower_side box c.place.link c.place.module c.at) lower) here.same found_sides.0.0 in
        let above : known high_box upper = subst (λ (box : TreeBox). known (upper_side box c.place.link c.place.module c.at) upper) here.same found_sides.1.0 in
        let after : AreTwigsOf known (twig_sides high_box upper ++ later) rest =
        subst (λ (boxes : List TreeBox). AreTwigsOf known (boxes ++ later) rest) (sym (leaf_sides high_box (twig_node upper) found_sides.1.1)) found.0.after in
        let both : AreTwigsOf known (twig_sides low_box lower ++ high_box ∷ later) (upper ∷ rest) =
        subst (λ (boxes : List TreeBox). AreTwigsOf known (boxes ++ high_box ∷ later) (upper ∷ rest)) (sym (leaf_sides low_box (twig_node lower) found_sides.0.1)) (above, after) in
        let inside = slice_get_within twigs i (twig.Open o) at in
        let whole = parts_at twigs i (twig.Open o) at in
        let parts : set (insert (insert twigs (i + 1) upper) (i + 1) lower) i top ≡ take i twigs ++ top ∷ lower ∷ upper ∷ rest = rw add-one (insert_parts twigs i top lower upper inside) in
        let splits = growing.splits in
        let few = growing.few in
        record {
          placed = subst (λ (ts : List Twig). AreTwigsOf known (whole_box p.links ∷ []) ts) (sym parts) (found.1 (top ∷ lower ∷ upper ∷ rest) ((split, (choice.cheap, here.unsettled)), (below, both)));
          splits = omega (
            arith,
            splits,
            ap twig_splits parts,
            ap twig_splits whole,
            splits_append (take i twigs) (top ∷ lower ∷ upper ∷ rest),
            splits_append (take i twigs) (twig.Open o ∷ rest),
            splits_cons top (lower ∷ upper ∷ rest),
            splits_cons lower (upper ∷ rest),
            splits_cons upper rest,
            splits_cons (twig.Open o) rest,
            no_split lower found_sides.0.1,
            no_split upper found_sides.1.1,
          );
          few = omega (
            arith,
            few,
            ap (λ (ts : List Twig). length ts) parts,
            ap (λ (ts : List Twig). length ts) whole,
            length-append (take i twigs) (top ∷ lower ∷ upper ∷ rest),
            length-append (take i twigs) (twig.Open o ∷ rest),
          );
        }

-- an open place is one of the tree's
pub open_inside : {twigs : List Twig} {i : ℕ} → IsOpenPlace twigs i → i < length twigs
open_inside {twigs} {i} place = slice_get_within twigs i (twig.Open place.opened) place.at

-- what is known of the open box that is read at a place
pub read_known : {twigs : List Twig} {t : Twig} {o : OpenBox} {p : Case} {plan : Plan} {handed : List CutLine} {tested : List Tested} {n : ℕ} (i : ℕ)
    → i < length twigs → t ≡ get_or twigs i t → t ≡ twig.Open o → IsGrowing p plan handed tested n twigs → IsOpenBox p plan handed tested n o.boxed o
read_known {twigs} {t} {o} i inside read is growing = open_known _ _ _ _ _ i twigs o (read_open twigs i t o inside read is) growing

-- what becomes of a tree that needn't grow, or of cheaper counts
pub grown_with : (p : Case) (plan : Plan) (handed : List CutLine) (tested : List Tested) (limit : ℕ) (tree : Tree) (o : Option Cheaper)
    → MatchOption o (IsGrownTree p plan handed tested limit tree) (AreCheaperCounts p plan.cost)
    → IsGrownTo p plan handed tested limit (growth_of tree o)
grown_with p plan handed tested limit tree None is = is
grown_with p plan handed tested limit tree (Some c) is = is
