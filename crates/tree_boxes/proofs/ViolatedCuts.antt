-- a cut that the only counts of a box violate empties the box
use Rattle.std.proofs.Common.{◌≡◌, ℕ, zero, suc, ◌*◌, ◌<◌, List, [], ◌∷◌, All, IsSome, Some, get_or, length, map, refl, ap, sym, subst, ◌∙◌, arith, slice_index, unwrap_or}
use Rattle.net_core.proofs.Library.{length-map, recursion_from_All, AllByRecursion}
use Rattle.plan_swaps.specs.Terms.{whole_caps}
use Rattle.plan_terms.specs.Terms.{AreCounts, CutLine, Link, Violates, capacities}
use Rattle.tree_check.{specs.Terms.{IsFixedBox, IsFixedSpan, any_count, least_counts, span_at, IsEmptiedBy, most_along, TreeBox}, specs.declared.boxes.Span.Span}
use Rattle.line_check.{specs.Inequalities.{coefficients_of, entry, line_of_cut, module_number, over_modules}, proofs.CutLines.capacities_along, proofs.OverModules.over-same}

-- the span of a module has one count, which is that of the least counts
record IsOneCount (s : Span) (n : ℕ) : Type 0 where
  fixed : IsFixedSpan s
  count : s.least ≡ n

span_fixed : (spans : List Span) (m : ℕ) → AllByRecursion IsFixedSpan spans → m < length spans
    → IsOneCount (get_or spans m any_count) (slice_index (map (λ s. s.least) spans) m)
span_fixed [] m fixed lt = absurd (omega arith)
span_fixed (s ∷ ss) zero fixed lt = record { fixed = fixed.0; count = refl }
span_fixed (s ∷ ss) (suc m) fixed lt = span_fixed ss m fixed.1 (omega arith)

fixed_at : (links : List Link) (box : TreeBox) (e m : ℕ) → AreCounts links (least_counts box) → AllByRecursion (All IsFixedSpan) box → m < module_number links e
    → IsOneCount (span_at box e m) (entry (least_counts box) e m)
fixed_at [] box e m shape fixed lt = absurd (omega arith)
fixed_at (l ∷ ls) [] e m shape fixed lt = absurd shape
fixed_at (l ∷ ls) (ss ∷ box) zero m shape fixed lt =
    span_fixed ss m (recursion_from_All IsFixedSpan ss fixed.0) (omega (arith, lt, shape.0, length-map ss (λ (s : Span). s.least)))
fixed_at (l ∷ ls) (ss ∷ box) (suc e) m shape fixed lt = fixed_at ls box e m shape.1 fixed.1 lt

module _ (links : List Link) (box : TreeBox) (shape : AreCounts links (least_counts box)) (fixed : IsFixedBox box) where
  one_count : (e m : ℕ) → m < module_number links e → IsOneCount (span_at box e m) (entry (least_counts box) e m)
  one_count e m lt = fixed_at links box e m shape (recursion_from_All (All IsFixedSpan) box fixed) lt

  has_most : (e m : ℕ) → m < module_number links e → (span_at box e m).most ≡ Some (entry (least_counts box) e m)
  has_most e m lt = let one = one_count e m lt in one.fixed ∙ ap Some one.count

  pub violated_empties : (cut : CutLine) → length cut.lengths ≡ length links → Violates (whole_caps (capacities links (least_counts box))) cut
      → IsEmptiedBy links box (line_of_cut links cut)
  violated_empties cut long violated =
      let most : most_along links box (line_of_cut links cut) ≡ over_modules links (λ e m. entry (coefficients_of cut.lengths links) e m * entry (least_counts box) e m) =
      over-same links (λ e m. entry (coefficients_of cut.lengths links) e m * unwrap_or (span_at box e m).most 0) (λ e m. entry (coefficients_of cut.lengths links) e m * entry (least_counts box) e m)
      (λ e m le lm. ap (λ o. entry (coefficients_of cut.lengths links) e m * unwrap_or o 0) (has_most e m lm)) in
      record {
        bounded = λ e m le lm some. subst IsSome (sym (has_most e m lm)) refl;
        short = omega (arith, violated, most, capacities_along cut.lengths links (least_counts box) long shape);
      }
