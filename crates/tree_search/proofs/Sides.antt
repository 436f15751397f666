-- the two sides of a split: their boxes, and what is found at them
use Rattle.std.{proofs.Common.{ℕ, zero, suc, ◌∷◌, ◌+◌, ◌^◌, ◌≤◌, ◌<◌, List, [], All, IfSome, Option, None, Some, get_or, length, replicate, set, subst, arith}, proofs.lemmas.List.Elements.{All-map, All-replicate, All-set}}
use Rattle.net_core.proofs.Library.{All-head, All-tail, length-map, ∥∥₁_elim, props}
use Rattle.plan_terms.specs.Terms.{AreCounts, Case, CutLine, IsLink, IsNetwork, Link}
use Rattle.plan_types.specs.declared.plan.Plan.{Plan}
use Rattle.tree_check.{specs.Terms.{IsSplitOf, any_count, beyond, least_counts, lower_side, span_at, spans_of, up_to, upper_side, whole_box, TreeBox}, proofs.LeftBoxes.{shape_set, whole_shape}}
use Rattle.tree_boxes.{specs.Terms.{Span, AreLow, HaveCounts, IsFoundAt, IsSearchBox, HasLearned, handed_in}, specs.declared.search.Search.Search, specs.declared.found.Found.Found, specs.declared.twigs.Twig.Twig, proofs.Extending.{handed_same, low_box, twig_on}}
use Rattle.tree_search.{specs.inner.Growing.{AreSidesOf, IsChoiceOf, sides_with}, specs.declared.choice.Choice.Choice}
use Rattle.tree_boxes.specs.declared.found.Found.TheVariants as found
use Rattle.tree_search.specs.declared.growth.Sides.TheVariants as sides

-- a low span in the place of another
low_set : (n : ℕ) (box : TreeBox) (e m : ℕ) (s : Span) → e < length box → AreLow n box → s.least ≤ 2 ^ 44 + n → AreLow n (set box e (set (spans_of box e) m s))
low_set n box e m s inside low few =
    All-set (λ (spans : List Span). All (λ t. t.least ≤ 2 ^ 44 + n) spans) box e (set (spans_of box e) m s)
    (All-set (λ (t : Span). t.least ≤ 2 ^ 44 + n) (spans_of box e) m s few (low e [] inside)) low

-- a span that isn't empty in the place of another
some_set : (box : TreeBox) (e m : ℕ) (s : Span) → e < length box → HaveCounts box → IfSome s.most (λ most. s.least ≤ most) → HaveCounts (set box e (set (spans_of box e) m s))
some_set box e m s inside some has =
    All-set (λ (spans : List Span). All (λ t. IfSome t.most (λ most. t.least ≤ most)) spans) box e (set (spans_of box e) m s)
    (All-set (λ (t : Span). IfSome t.most (λ most. t.least ≤ most)) (spans_of box e) m s has (some e [] inside)) some

beyond_some : (a : ℕ) (most : Option ℕ) → IfSome most (λ n. a < n) → IfSome most (λ n. a + 1 ≤ n)
beyond_some a None lt = tt
beyond_some a (Some n) lt = omega (arith, lt)

module _ (links : List Link) (cost n : ℕ) (box : TreeBox) (c : Choice) (is : IsSearchBox links n box) (choice : IsChoiceOf links cost n box c) where
  low_here : AreLow (n + 1) box
  low_here = (low_box links n (n + 1) box (omega arith) is).low

  least_low : (span_at box c.place.link c.place.module).least ≤ 2 ^ 44 + (n + 1)
  least_low = low_here c.place.link [] choice.split.link c.place.module any_count choice.split.inside

  -- the lower side is a box of the search
  pub lower_searched : IsSearchBox links (n + 1) (lower_side box c.place.link c.place.module c.at)
  lower_searched = record {
    shape = shape_set links box c.place.link c.place.module (up_to c.at (span_at box c.place.link c.place.module)) is.shape;
    some = some_set box c.place.link c.place.module (up_to c.at (span_at box c.place.link c.place.module)) choice.split.link is.some choice.split.from_least;
    low = low_set (n + 1) box c.place.link c.place.module (up_to c.at (span_at box c.place.link c.place.module)) choice.split.link low_here least_low;
  }

  -- the upper side is a box of the search
  pub upper_searched : IsSearchBox links (n + 1) (upper_side box c.place.link c.place.module c.at)
  upper_searched = record {
    shape = shape_set links box c.place.link c.place.module (beyond c.at (span_at box c.place.link c.place.module)) is.shape;
    some = some_set box c.place.link c.place.module (beyond c.at (span_at box c.place.link c.place.module)) choice.split.link is.some
        (beyond_some c.at (span_at box c.place.link c.place.module).most choice.split.below_most);
    low = low_set (n + 1) box c.place.link c.place.module (beyond c.at (span_at box c.place.link c.place.module)) choice.split.link low_here (let low = choice.low in omega (arith, low));
  }

places_small : (n : ℕ) (links : List Link) (box : TreeBox) (e m : ℕ) → All (IsLink n) links → AreCounts links (least_counts box) → e < length box → m < length (spans_of box e)
    → (e < length links) × (m < 17)
places_small n links [] e m sound shape lt inside = absurd (omega (arith, lt))
places_small n [] (ss ∷ box) e m sound shape lt inside = absurd shape
places_small n (l ∷ links) (ss ∷ box) zero m sound shape lt inside =
    let few = (All-head (IsLink n) l links sound).few in
    (omega arith, omega (arith, few, inside, shape.0, length-map ss (λ (s : Span). s.least)))
places_small n (l ∷ links) (ss ∷ box) (suc e) m sound shape lt inside =
    let rest = places_small n links box e m (All-tail (IsLink n) l links sound) shape.1 (omega (arith, lt)) inside in
    (let low = rest.0 in omega (arith, low), rest.1)

-- the place of a split has a small number
pub split_link_small : (nodes : List (List ℕ)) (links : List Link) (n : ℕ) (box : TreeBox) (e m a : ℕ) → ∥ IsNetwork nodes links ∥₁ → IsSearchBox links n box → IsSplitOf box e m a → e < 2 ^ 32
split_link_small nodes links n box e m a checked is split =
    ∥∥₁_elim checked (hlevel props) (λ net. let both = places_small (length nodes) links box e m net.sound is.shape split.link split.inside in let few = net.few_links in omega (arith, both.0, few))

pub split_module_small : (nodes : List (List ℕ)) (links : List Link) (n : ℕ) (box : TreeBox) (e m a : ℕ) → ∥ IsNetwork nodes links ∥₁ → IsSearchBox links n box → IsSplitOf box e m a → m < 2 ^ 32
split_module_small nodes links n box e m a checked is split =
    ∥∥₁_elim checked (hlevel props) (λ net. let both = places_small (length nodes) links box e m net.sound is.shape split.link split.inside in omega (arith, both.1))

-- the whole box is a box of the search
pub whole_searched : (links : List Link) → IsSearchBox links 0 (whole_box links)
whole_searched links = record { shape = whole_shape links; some = any_some links; low = any_low links }
  where
    any_some : (links : List Link) → HaveCounts (whole_box links)
    any_some links = All-map (λ (spans : List Span). All (λ t. IfSome t.most (λ most. t.least ≤ most)) spans) (λ (l : Link). replicate (length l.modules) any_count) links
        (λ i l lt. All-replicate (λ (t : Span). IfSome t.most (λ most. t.least ≤ most)) (length (get_or links i l).modules) any_count tt)

    any_low : (links : List Link) → AreLow 0 (whole_box links)
    any_low links = All-map (λ (spans : List Span). All (λ t. t.least ≤ 2 ^ 44 + 0) spans) (λ (l : Link). replicate (length l.modules) any_count) links
        (λ i l lt. All-replicate (λ (t : Span). t.least ≤ 2 ^ 44 + 0) (length (get_or links i l).modules) any_count (omega arith))

-- what was found at the lower side, and then at the upper one
sides_found : (p : Case) (plan : Plan) (n : ℕ) (box : TreeBox) (c : Choice) (before between after : Search) (lower upper : Twig)
    → before.handed ≤ length before.known.entries → HasLearned before between → HasLearned between after
    → IsFoundAt p plan (handed_in before) between.known.tested n (lower_side box c.place.link c.place.module c.at) (found.Twig lower)
    → IsFoundAt p plan (handed_in between) after.known.tested n (upper_side box c.place.link c.place.module c.at) (found.Twig upper)
    → AreSidesOf p plan (handed_in before) after.known.tested n box c (sides.Twigs lower upper)
sides_found p plan n box c before between after lower upper inside first second below above = (
  (twig_on p plan between.known.tested after.known.tested second.tested (handed_in before) n n (omega arith) (lower_side box c.place.link c.place.module c.at) lower below.0, below.1),
  subst (λ (handed : List CutLine). IsFoundAt p plan handed after.known.tested n (upper_side box c.place.link c.place.module c.at) (found.Twig upper)) (handed_same before between first inside) above,
)

-- whatever that was
pub sides_found_with : (p : Case) (plan : Plan) (n : ℕ) (box : TreeBox) (c : Choice) (before between after : Search) (lower : Twig) (second_found : Found)
    → before.handed ≤ length before.known.entries → HasLearned before between → HasLearned between after
    → IsFoundAt p plan (handed_in before) between.known.tested n (lower_side box c.place.link c.place.module c.at) (found.Twig lower)
    → IsFoundAt p plan (handed_in between) after.known.tested n (upper_side box c.place.link c.place.module c.at) second_found
    → AreSidesOf p plan (handed_in before) after.known.tested n box c (sides_with lower second_found)
sides_found_with p plan n box c before between after lower (found.Twig upper) inside first second below above =
    sides_found p plan n box c before between after lower upper inside first second below above
sides_found_with p plan n box c before between after lower (found.Cheaper cheaper) inside first second below above = above
