-- what is found at a box
use Rattle.std.proofs.Common.{◌≡◌, ℕ, zero, suc, ◌+◌, ◌^◌, ◌≤◌, ◌<◌, false, List, [], ◌∷◌, ◌++◌, All, Some, get_or, length, map, take, refl, subst, sym, arith, slice_get}
use Rattle.net_core.proofs.Library.{All-map, All-weaker, slice_get-get_or, few_links}
use Rattle.module_choice.proofs.Carrying.{network_links}
use Rattle.plan_swaps.specs.Terms.{IsWideSomewhere, whole_caps}
use Rattle.plan_terms.specs.Terms.{AreCounts, AreDemands, Case, CutLine, Evidence, IsCut, IsNetwork, Link, Violates, capacities, total_cost}
use Rattle.plan_types.specs.declared.plan.Plan.{Plan}
use Rattle.tree_check.{specs.Terms.{IsFixedBox, least_counts, HasBoxValue, TreeBox, EmptiesBox, Tested}, specs.declared.boxes.Span.Span, specs.declared.proof.Node.TheVariants.Empty}
use Rattle.line_check.specs.Terms.{line_of_cut, names_by}
use Rattle.line_maker.specs.declared.entry.Entry.{Entry}
use Rattle.tree_boxes.{specs.Causes.{HasFreeValue, IsUnsettled}, specs.declared.certs.Valued.Valued, specs.declared.found.Cheaper.Cheaper, specs.declared.search.Search.Search, specs.declared.known.Known.Known, specs.Finds.{AreCheaperCounts, IsFoundAt, IsSearchBox, IsValued}, specs.Searches.{IsKnown, IsSearch, handed_in}, proofs.Extending.low_box, proofs.FreeValues.free_value, proofs.LeastCosts.free_reaches, proofs.Knowing.{entry_at, place_names}, proofs.ViolatedCuts.violated_empties, proofs.WideForms.wide_form}
use Rattle.tree_boxes.specs.declared.found.Found.TheVariants as found
use Rattle.tree_boxes.specs.declared.twigs.Twig.TheVariants as twig
use Rattle.line_maker.specs.declared.entry.Entry.TheVariants as entry

-- ---- settled boxes

-- a cut that empties it
pub empty_found : (p : Case) (plan : Plan) (handed : List CutLine) (tested : List Tested) (n : ℕ) (box : TreeBox) (i : ℕ) → EmptiesBox (names_by tested false) p.links box i
    → IsFoundAt p plan handed tested n box (found.Twig (twig.Settled (Empty i)))
empty_found p plan handed tested n box i empties = ((empties, tt), refl)

-- a greater value
pub valued_more : (p : Case) (plan : Plan) (tested : List Tested) (box : TreeBox) (old new : Valued) → IsValued p plan tested box old
    → HasBoxValue (names_by tested false) p.links box new.cert new.value → old.value ≤ new.value → IsValued p plan tested box new
valued_more p plan tested box old new is has more = record { has = has; least = λ value plans. omega (arith, is.least value plans, more) }

at_of_take : {X : Type 0} (n : ℕ) (xs : List X) (i : ℕ) (x : X) → slice_get (take n xs) i ≡ Some x → slice_get xs i ≡ Some x
at_of_take zero xs i x at = absurd (cc at)
at_of_take (suc n) [] i x at = absurd (cc at)
at_of_take (suc n) (y ∷ xs) zero x at = at
at_of_take (suc n) (y ∷ xs) (suc i) x at = at_of_take n xs i x at

-- a box that no cut empties, and whose best certificate doesn't close it
pub unsettled_box : (p : Case) (plan : Plan) (s : Search) (box : TreeBox) (v : Valued) → IsSearch p s
    → ((i : ℕ) → EmptiesBox (names_by s.known.tested false) p.links box i → ⊥) → IsValued p plan s.known.tested box v
    → ((value : ℕ) → HasFreeValue p.links box value → value ≤ v.value) → v.value < plan.cost → IsUnsettled p.links plan (handed_in s) box
unsettled_box p plan s box v is none valued free below = record {
  unemptied = λ i d lt empties.
      let cut : CutLine = get_or (handed_in s) i d in
      let there : slice_get (take s.handed s.known.entries) i ≡ Some (entry.Cut cut) =
      subst (λ (es : List Entry). slice_get es i ≡ Some (entry.Cut cut)) (sym is.first) (entry_at (handed_in s) i cut (slice_get-get_or (handed_in s) i d lt)) in
      none i (line_of_cut p.links cut, place_names p s.known is.known i cut (at_of_take s.handed s.known.entries i (entry.Cut cut) there), empties);
  by_plan = λ value plans. omega (arith, valued.least value plans, below);
  by_none = λ value frees. omega (arith, free value frees, below);
}

-- a box that has to be split
pub open_found : (p : Case) (plan : Plan) (handed : List CutLine) (tested : List Tested) (n : ℕ) (box : TreeBox) (v : Valued) (rank seen : ℕ) → IsSearchBox p.links n box → IsValued p plan tested box v
    → v.value < plan.cost → IsUnsettled p.links plan handed box → (IsFixedBox box → ⊥)
    → IsFoundAt p plan handed tested n box (found.Twig (twig.Open (record { boxed = box; best = v; rank = rank; seen = seen })))
open_found p plan handed tested n box v rank seen is valued below unsettled unfixed =
    (record { same = refl; search_box = is; valued = valued; below = below; unsettled = unsettled; unfixed = unfixed }, refl)

-- ---- boxes of one choice of counts

last_at : {X : Type 0} (xs : List X) (x : X) → slice_get (xs ++ x ∷ []) (length xs) ≡ Some x
last_at [] x = refl
last_at (y ∷ xs) x = last_at xs x

-- a cut that its counts violate is put last
pub violated_found : (p : Case) (plan : Plan) (handed : List CutLine) (old new : Known) (cut : CutLine) (n i : ℕ) (box : TreeBox) → i ≡ length old.entries
    → AreCounts p.links (least_counts box) → IsFixedBox box → new.entries ≡ old.entries ++ entry.Cut cut ∷ [] → IsKnown p new → IsCut p cut
    → Violates (whole_caps (capacities p.links (least_counts box))) cut → IsFoundAt p plan handed new.tested n box (found.Twig (twig.Settled (Empty i)))
violated_found p plan handed old new cut n i box last shape fixed is known of violated =
    let there : slice_get new.entries i ≡ Some (entry.Cut cut) = subst (λ (k : ℕ). slice_get new.entries k ≡ Some (entry.Cut cut)) (sym last)
    (subst (λ (es : List Entry). slice_get es (length old.entries) ≡ Some (entry.Cut cut)) (sym is) (last_at old.entries (entry.Cut cut))) in
    empty_found p plan handed new.tested n box i (
      line_of_cut p.links cut,
      place_names p new known i cut there,
      violated_empties p.links box shape fixed cut of.kept.count violated,
    )

-- its counts cost less than the plan
pub fixed_cheaper : (p : Case) (plan : Plan) (handed : List CutLine) (n : ℕ) (box : TreeBox) → ∥ IsNetwork p.nodes p.links ∥₁ → IsSearchBox p.links n box → n ≤ 2 ^ 14
    → IsUnsettled p.links plan handed box → total_cost p.links (least_counts box) < plan.cost
fixed_cheaper p plan handed n box network is few unsettled =
    let low = (low_box p.links n (2 ^ 14) box few is).low in
    let free = free_value p.links (few_links p.nodes p.links network)
    (λ k d lt. let sound = network_links p.nodes p.links network k d lt in (sound.few, sound.setup, sound.each)) box low in
    omega (arith, free_reaches p.links box free.0 is.shape free.1, unsettled.by_none free.0 free.1)

pub cheaper_than : (p : Case) (most cost : ℕ) (c : Cheaper) → most < cost → AreCheaperCounts p (most + 1) c → AreCheaperCounts p cost c
cheaper_than p most cost c less is = record {
  shape = is.shape;
  limits = is.limits;
  routings = is.routings;
  paid = is.paid;
  cheaper = omega (arith, less, is.cheaper);
}

low_counts : (links : List Link) (n : ℕ) (box : TreeBox) → n ≤ 2 ^ 14 → IsSearchBox links n box → All (All (λ m. m < 2 ^ 64)) (least_counts box)
low_counts links n box few is =
    All-map (All (λ (m : ℕ). m < 2 ^ 64)) (λ (spans : List Span). map (λ (s : Span). s.least) spans) box
    (All-weaker (All (λ (s : Span). s.least ≤ 2 ^ 44 + n)) (λ spans. All (λ (m : ℕ). m < 2 ^ 64) (map (λ (s : Span). s.least) spans))
    (λ (spans : List Span) low. All-map (λ (m : ℕ). m < 2 ^ 64) (λ (s : Span). s.least) spans
    (All-weaker (λ (s : Span). s.least ≤ 2 ^ 44 + n) (λ s. s.least < 2 ^ 64) (λ (s : Span) le. omega (arith, le, few)) spans low))
    box is.low)

-- evidence that a number is too wide at its counts
pub stuck_found : (p : Case) (plan : Plan) (handed : List CutLine) (tested : List Tested) (n : ℕ) (box : TreeBox) (v : Valued) (evidence : Evidence) → ∥ IsNetwork p.nodes p.links ∥₁ → AreDemands (length p.nodes) p.demands
    → IsSearchBox p.links n box → n ≤ 2 ^ 14 → IsFixedBox box → IsValued p plan tested box v → v.value < plan.cost → IsWideSomewhere p (whole_caps (capacities p.links (least_counts box))) evidence
    → IsFoundAt p plan handed tested n box (found.Twig (twig.Stuck v evidence))
stuck_found p plan handed tested n box v evidence network demands is few fixed valued below wide = (
  record {
    valued = valued;
    below = below;
    fixed = fixed;
    form = wide_form p (network_links p.nodes p.links network) demands (least_counts box) is.shape (low_counts p.links n box few is) evidence wide;
    wide = wide;
  },
  refl,
)
