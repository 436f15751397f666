-- the certificate of no lines is worth what the least counts of a box cost
use Rattle.std.proofs.Common.{◌≡◌, ◌≢◌, ℕ, ◌+◌, ◌-◌, ◌*◌, ◌≤◌, Bool, if◌then◌else◌, ◌||◌, List, [], ◌∷◌, ⊎_elim, get_or, length, map, zip, refl, ap, arith, slice_index, subst, ◌∙◌, nat_lt, unwrap_or}
use Rattle.net_core.proofs.Library.{cases_eq, mul-div_cancel', recursion_from_All, sum_by-cons, ◌∣◌, below-first, below-none, below-same}
use Rattle.plan_terms.{proofs.Duality.cost_divided, specs.Terms.{AreCounts, Link, Module, charges, installs, link_cost, modules_cost, sum_below, total_cost}}
use Rattle.tree_check.{specs.Terms.{any_count, least_counts, span_at, all_gains, all_losses, certain_setup, certain_setups, installs_always, module_charge, module_costs, module_gain, module_loss, TreeBox}, specs.declared.boxes.Span.Span}
use Rattle.line_check.{specs.Inequalities.{entry, module_number, module_price, over_modules}, proofs.OverModules.{over-first, over-same}}
use Rattle.tree_boxes.specs.Causes.{HasFreeValue}

-- what the least counts of a link's modules cost
modules_least : (modules : List Module) (spans : List Span) → length (map (λ (s : Span). s.least) spans) ≡ length modules
    → modules_cost modules (map (λ s. s.least) spans) ≡ sum_below (length modules) (λ m. slice_index (map (λ x. x.cost) modules) m * (get_or spans m any_count).least)
modules_least [] spans same = refl
modules_least (x ∷ ms) [] same = absurd (omega (arith, same))
modules_least (x ∷ ms) (s ∷ ss) same =
    omega (
      arith,
      modules_least ms ss (omega (arith, same)),
      sum_by-cons (λ (p : Module × ℕ). p.0.cost * p.1) (x, s.least) (zip ms (map (λ (y : Span). y.least) ss)),
      below-first (length ms) (λ m. slice_index (map (λ y. y.cost) (x ∷ ms)) m * (get_or (s ∷ ss) m any_count).least),
    )

-- they install something where all counts do
installs_least : (spans : List Span) → installs (map (λ s. s.least) spans) ≡ installs_always spans
installs_least [] = refl
installs_least (s ∷ ss) = ap (λ (b : Bool). nat_lt 0 s.least || b) (installs_least ss)

-- what the least counts of a box cost
pub total_least : (links : List Link) (box : TreeBox) → AreCounts links (least_counts box)
    → total_cost links (least_counts box) ≡ over_modules links (λ e m. entry (module_costs links) e m * (span_at box e m).least) + certain_setups links box
total_least [] [] shape = refl
total_least [] (ss ∷ box) shape = absurd shape
total_least (l ∷ ls) [] shape = absurd shape
total_least (l ∷ ls) (ss ∷ box) shape =
    omega (
      arith,
      total_least ls box shape.1,
      modules_least l.modules ss shape.0,
      ap (λ (b : Bool). if b then l.setup else 0) (installs_least ss),
      over-first l ls (λ e m. entry (module_costs (l ∷ ls)) e m * (span_at (ss ∷ box) e m).least),
      below-first (length ls) (certain_setup (l ∷ ls) (ss ∷ box)),
      sum_by-cons (λ (p : Link × List ℕ). link_cost p.0 p.1) (l, map (λ (s : Span). s.least) ss) (zip ls (least_counts box)),
    )

-- 0 divides 0 alone
none_divided : (n : ℕ) → 0 ∣ n → n ≡ 0
none_divided n divides = let whole = mul-div_cancel' 0 divides in omega (arith, whole)

pub over_none : (links : List Link) → over_modules links (λ e m. 0) ≡ 0
over_none links = below-same (length links) _ (λ e. 0) (λ e lt. below-none (module_number links e)) ∙ below-none (length links)

module _ (links : List Link) (box : TreeBox) where
  free_gains : all_gains links box 1 [] ≡ over_modules links (λ e m. entry (module_costs links) e m * (span_at box e m).least)
  free_gains = over-same links (module_gain links box 1 []) (λ e m. entry (module_costs links) e m * (span_at box e m).least)
      (λ e m le lm. let whole : module_charge links 1 e m - module_price [] e m ≡ entry (module_costs links) e m = omega arith in ap (λ i. i * (span_at box e m).least) whole)

  free_losses : all_losses links box 1 [] ≡ over_modules links (λ e m. 0)
  free_losses = over-same links (module_loss links box 1 []) (λ e m. 0)
      (λ e m le lm. let none : module_price [] e m - module_charge links 1 e m ≡ 0 = omega arith in omega (arith, ap (λ i. i * unwrap_or (span_at box e m).most 0) none))

  -- the value is no less
  pub free_reaches : (value : ℕ) → AreCounts links (least_counts box) → HasFreeValue links box value → total_cost links (least_counts box) ≤ value
  free_reaches value shape is =
      let g = is.rounded.divisor in
      ⊎_elim
      (λ (none : g ≡ 0).
      let divides : g ∣ total_cost links (least_counts box) = cost_divided g links (least_counts box) shape (recursion_from_All (λ x. g ∣ x) (charges links) is.rounded.is_divisor.divides) in
      omega (arith, none_divided (total_cost links (least_counts box)) (subst (λ d. d ∣ total_cost links (least_counts box)) none divides)))
      (λ (some : g ≢ 0). omega (arith, is.rounded.reaches some, total_least links box shape, free_gains, free_losses, over_none links))
      (cases_eq g 0)
