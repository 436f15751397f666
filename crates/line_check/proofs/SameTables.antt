-- one table line of these weights
use Rattle.std.proofs.Common.{◌≡◌, ℕ, ◌+◌, ◌≤◌, ⊎_elim, List, slice_index, take, ap, subst, sym, ◌∙◌, arith}
use Rattle.plan_terms.specs.Terms.{Case}
use Rattle.line_check.{specs.CoverWeights.IsLeastWeight, specs.Inequalities.need_of, specs.Lines.{IsFailedWeight, IsTableOver, IsTableRight, IsWeightWithout, table_line}, specs.declared.inequality.Inequality.Inequality, specs.declared.line.TableKind.TableKind, specs.declared.line.TableKind.TheVariants.{Plain, Failing}, proofs.RisingKinds.kinds_same}

least_same : (sizes weights : List ℕ) (need a b : ℕ) → IsLeastWeight sizes weights need a → IsLeastWeight sizes weights need b → a ≡ b
least_same sizes weights need a b is_a is_b = omega (arith, is_a.weight, is_b.weight, is_a.at_most is_b.numbers is_b.cover, is_b.at_most is_a.numbers is_a.cover)

failed_same : (p : Case) (over : Inequality) (kind weight a b : ℕ) → IsFailedWeight p over kind weight a → IsFailedWeight p over kind weight b → a ≡ b
failed_same p over kind weight a b is_a is_b = ⊎_elim
    (λ spared. ⊎_elim (λ spared_too. omega (arith, spared.1, spared_too.1)) (λ not_spared. absurd (not_spared.0 spared.0)) is_b)
    (λ not_spared. ⊎_elim (λ spared. absurd (not_spared.0 spared.0)) (λ not_spared_too. omega (arith, not_spared.1, not_spared_too.1)) is_b)
    is_a

without_same : (p : Case) (over : Inequality) (kinds weights : List ℕ) (k a b : ℕ) → IsWeightWithout p over kinds weights k a → IsWeightWithout p over kinds weights k b → a ≡ b
without_same p over kinds weights k a b is_a is_b =
    omega (
      arith,
      is_a.sum,
      is_b.sum,
      failed_same p over (slice_index kinds k) (slice_index weights k) is_a.failed is_b.failed is_a.is_failed is_b.is_failed,
      least_same (take (k + 1) kinds) (take (k + 1) weights) (need_of over) is_a.least is_b.least is_a.is_least is_b.is_least,
    )

not_above : (p : Case) (over : Inequality) (kinds weights : List ℕ) (a b : ℕ) → IsTableRight p over kinds weights Failing a → IsTableRight p over kinds weights Failing b → b ≤ a
not_above p over kinds weights a b is_a is_b =
    let there = is_b.1 is_a.0.0 is_a.0.1.inside in
    omega (arith, there.2, without_same p over kinds weights is_a.0.0 a there.0 is_a.0.1 there.1)

right_same : (p : Case) (over : Inequality) (kinds weights : List ℕ) (kind : TableKind) (a b : ℕ) → IsTableRight p over kinds weights kind a → IsTableRight p over kinds weights kind b → a ≡ b
right_same p over kinds weights Plain a b is_a is_b = least_same kinds weights (need_of over) a b is_a is_b
right_same p over kinds weights Failing a b is_a is_b = omega (arith, not_above p over kinds weights a b is_a is_b, not_above p over kinds weights b a is_b is_a)

pub table_same : (p : Case) (over : Inequality) (kind : TableKind) (weights : List ℕ) (a b : Inequality) → IsTableOver p over kind weights a → IsTableOver p over kind weights b → a ≡ b
table_same p over kind weights a b is_a is_b =
    let same = kinds_same p.links over is_a.kinds is_b.kinds is_a.are is_b.are in
    let moved = subst (λ kinds. IsTableRight p over kinds weights kind is_a.right) same is_a.is_right in
    let rights = right_same p over is_b.kinds weights kind is_a.right is_b.right moved is_b.is_right in
    is_a.is ∙ (ap (λ kinds. table_line p.links over kinds weights is_a.right) same ∙ (ap (λ right. table_line p.links over is_b.kinds weights right) rights ∙ sym is_b.is))
