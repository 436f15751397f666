-- the counts of a box, module by module
use Rattle.std.{proofs.Common.{◌≡◌, ℕ, zero, suc, ◌≤◌, ◌<◌, ◌+◌, List, [], ◌∷◌, ◌⊎◌, inl, inr, ⊎_elim, length, get_or, replicate, slice_index, refl, ap, arith, set}, specs.List.AllZip}
use Rattle.net_core.proofs.Library.{cases_lt}
use Rattle.plan_terms.specs.Terms.{AreCounts, Link}
use Rattle.line_check.specs.Inequalities.{entry, module_number}
use Rattle.tree_check.{specs.Boxes.{AreInBox, IsInSpan, IsSplitOf, any_count, beyond, lower_side, span_at, spans_of, up_to, upper_side, whole_box}, specs.Trees.TreeBox, specs.declared.boxes.Span.Span}

-- a count of a list of spans is in its span
span_holds : (spans : List Span) (cs : List ℕ) (m : ℕ) → AllZip IsInSpan spans cs → m < length spans → IsInSpan (get_or spans m any_count) (slice_index cs m)
span_holds [] cs m all lt = absurd (omega arith)
span_holds (s ∷ ss) [] m all lt = absurd all
span_holds (s ∷ ss) (c ∷ cs) zero all lt = all.0
span_holds (s ∷ ss) (c ∷ cs) (suc m) all lt = span_holds ss cs m all.1 (omega arith)

-- a count of a box is in its span
pub in_span_at : (box : TreeBox) (counts : List (List ℕ)) (e m : ℕ) → AreInBox box counts → m < length (spans_of box e) → IsInSpan (span_at box e m) (entry counts e m)
in_span_at [] counts e m all lt = absurd (omega arith)
in_span_at (ss ∷ box) [] e m all lt = absurd all
in_span_at (ss ∷ box) (cs ∷ counts) zero m all lt = span_holds ss cs m all.0 lt
in_span_at (ss ∷ box) (cs ∷ counts) (suc e) m all lt = in_span_at box counts e m all.1 lt

same_long : (spans : List Span) (cs : List ℕ) → AllZip IsInSpan spans cs → length spans ≡ length cs
same_long [] [] all = refl
same_long [] (c ∷ cs) all = absurd all
same_long (s ∷ ss) [] all = absurd all
same_long (s ∷ ss) (c ∷ cs) all = ap suc (same_long ss cs all.1)

-- a box with counts of links has a span for each of their modules
pub has_spans : (links : List Link) (box : TreeBox) (counts : List (List ℕ)) (e m : ℕ) → AreCounts links counts → AreInBox box counts → m < module_number links e → m < length (spans_of box e)
has_spans [] box counts e m shape all lt = absurd (omega arith)
has_spans (l ∷ ls) box [] e m shape all lt = absurd shape
has_spans (l ∷ ls) [] (cs ∷ counts) e m shape all lt = absurd all
has_spans (l ∷ ls) (ss ∷ box) (cs ∷ counts) zero m shape all lt = omega (arith, lt, shape.0, same_long ss cs all.0)
has_spans (l ∷ ls) (ss ∷ box) (cs ∷ counts) (suc e) m shape all lt = has_spans ls box counts e m shape.1 all.1 lt

-- a module's count is in its span
pub count_in_span : (links : List Link) (box : TreeBox) (counts : List (List ℕ)) (e m : ℕ) → AreCounts links counts → AreInBox box counts → m < module_number links e → IsInSpan (span_at box e m) (entry counts e m)
count_in_span links box counts e m shape all lt = in_span_at box counts e m all (has_spans links box counts e m shape all lt)

-- a span of a list may be narrowed to one that still has the count
span_set : (spans : List Span) (cs : List ℕ) (m : ℕ) (s : Span) → AllZip IsInSpan spans cs → IsInSpan s (slice_index cs m) → AllZip IsInSpan (set spans m s) cs
span_set [] cs m s all is = all
span_set (x ∷ ss) [] m s all is = absurd all
span_set (x ∷ ss) (c ∷ cs) zero s all is = (is, all.1)
span_set (x ∷ ss) (c ∷ cs) (suc m) s all is = (all.0, span_set ss cs m s all.1 is)

pub in_box_set : (box : TreeBox) (counts : List (List ℕ)) (e m : ℕ) (s : Span) → AreInBox box counts → IsInSpan s (entry counts e m) → AreInBox (set box e (set (spans_of box e) m s)) counts
in_box_set [] counts e m s all is = all
in_box_set (ss ∷ box) [] e m s all is = absurd all
in_box_set (ss ∷ box) (cs ∷ counts) zero m s all is = (span_set ss cs m s all.0 is, all.1)
in_box_set (ss ∷ box) (cs ∷ counts) (suc e) m s all is = (all.0, in_box_set box counts e m s all.1 is)

-- counts of a box are on one side of a split of it
pub on_a_side : (box : TreeBox) (counts : List (List ℕ)) (e m a : ℕ) → IsSplitOf box e m a → AreInBox box counts → AreInBox (lower_side box e m a) counts ⊎ AreInBox (upper_side box e m a) counts
on_a_side box counts e m a split all =
    let here = in_span_at box counts e m all split.inside in
    ⊎_elim
    (λ (lt : entry counts e m < a + 1). inl (in_box_set box counts e m (up_to a (span_at box e m)) all (here.0, omega arith)))
    (λ (ge : a + 1 ≤ entry counts e m). inr (in_box_set box counts e m (beyond a (span_at box e m)) all (ge, here.1)))
    (cases_lt (entry counts e m) (a + 1))

any_counts : (n : ℕ) (cs : List ℕ) → length cs ≡ n → AllZip IsInSpan (replicate n any_count) cs
any_counts zero [] same = tt
any_counts zero (c ∷ cs) same = absurd (omega (arith, same))
any_counts (suc n) [] same = absurd (omega (arith, same))
any_counts (suc n) (c ∷ cs) same = ((omega arith, tt), any_counts n cs (omega (arith, same)))

-- all counts are in the whole box
pub in_whole_box : (links : List Link) (counts : List (List ℕ)) → AreCounts links counts → AreInBox (whole_box links) counts
in_whole_box [] [] shape = tt
in_whole_box [] (c ∷ counts) shape = absurd shape
in_whole_box (l ∷ ls) [] shape = absurd shape
in_whole_box (l ∷ ls) (c ∷ counts) shape = (any_counts (length l.modules) c shape.0, in_whole_box ls counts shape.1)
