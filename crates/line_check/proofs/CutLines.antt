-- able counts meet the line of each cut
use Rattle.std.proofs.Common.{◌≡◌, ℕ, ◌+◌, ◌*◌, List, [], ◌∷◌, length, map, zip, sum_by, slice_index, refl, ap, arith}
use Rattle.net_core.proofs.Library.{sum_by-cons, below-first}
use Rattle.module_choice.proofs.Pairs.{capacities_long}
use Rattle.plan_terms.{specs.Terms.{AreCounts, Case, CutLine, IsAble, IsCut, Link, Module, capacities, fixed_along, graph_in, modules_capacity, sum_below}, proofs.Lemmas.metric_inequality_listed}
use Rattle.line_check.{specs.Inequalities.{MeetsLine, coefficients_of, entry, line_of_cut, over_modules}, proofs.OverModules.over-first}

-- a link's modules along a length
link_along : (far : ℕ) (modules : List Module) (counts : List ℕ) → length counts ≡ length modules
    → far * modules_capacity modules counts ≡ sum_below (length modules) (λ m. slice_index (map (λ x. far * x.capacity) modules) m * slice_index counts m)
link_along far [] counts same = omega arith
link_along far (x ∷ ms) [] same = absurd (omega (arith, same))
link_along far (x ∷ ms) (c ∷ cs) same =
    omega (
      arith,
      link_along far ms cs (omega (arith, same)),
      ap (λ s. far * s) (sum_by-cons (λ (p : Module × ℕ). p.0.capacity * p.1) (x, c) (zip ms cs)),
      below-first (length ms) (λ m. slice_index (map (λ y. far * y.capacity) (x ∷ ms)) m * slice_index (c ∷ cs) m),
    )

-- capacities along lengths are what is pre-installed along them, and the modules times their coefficients
pub capacities_along : (lengths : List ℕ) (links : List Link) (counts : List (List ℕ)) → length lengths ≡ length links → AreCounts links counts
    → sum_by (λ p. p.0 * p.1) (zip lengths (capacities links counts)) ≡ fixed_along lengths links + over_modules links (λ e m. entry (coefficients_of lengths links) e m * entry counts e m)
capacities_along [] [] [] long shape = refl
capacities_along [] [] (c ∷ counts) long shape = absurd shape
capacities_along [] (l ∷ ls) counts long shape = absurd (omega (arith, long))
capacities_along (x ∷ xs) [] counts long shape = absurd (omega (arith, long))
capacities_along (x ∷ xs) (l ∷ ls) [] long shape = absurd shape
capacities_along (x ∷ xs) (l ∷ ls) (c ∷ counts) long shape =
    omega (
      arith,
      capacities_along xs ls counts (omega (arith, long)) shape.1,
      link_along x l.modules c shape.0,
      sum_by-cons (λ (p : ℕ × ℕ). p.0 * p.1) (x, l.fixed + modules_capacity l.modules c) (zip xs (capacities ls counts)),
      sum_by-cons (λ (p : ℕ × Link). p.0 * p.1.fixed) (x, l) (zip xs ls),
      over-first l ls (λ e m. entry (coefficients_of (x ∷ xs) (l ∷ ls)) e m * entry (c ∷ counts) e m),
    )

pub cut_line_met : (p : Case) (cut : CutLine) (counts : List (List ℕ)) → IsCut p cut → IsAble p counts → MeetsLine p.links (line_of_cut p.links cut) counts
cut_line_met p cut counts is able =
    let there = able.each cut.state.0 is.listed_state in
    let g = graph_in p cut.state.0 in
    let inequality = metric_inequality_listed g p.demands 1 (capacities p.links counts) cut.lengths cut.right there.routing is.kept.count (capacities_long p.links counts able.shape) there.carries is.right in
    omega (arith, inequality, capacities_along cut.lengths p.links counts is.kept.count able.shape)
