use Rattle.std.{proofs.Common.{◌++◌, ◌∷◌, [], ◌+◌, ◌-◌, ◌<◌, List, ℕ, get_or, length, take, ap, sym, subst, arith}, proofs.lemmas.List.{length-take, length_push, take_more}}
use Rattle.plan_terms.specs.Terms.{Module}
use Rattle.tree_boxes.proofs.Lowering.{IsLoweredTo, lowered_more}
use Rattle.tree_boxes.proofs.lowered_counts.lowered_link.Goals as goal

pub loop-m-preserved : goal.loop-m-preserved
loop-m-preserved c =
    let ms = c.args.modules.now in
    let cs = c.args.counts.now in
    let m = c.loop-m.m in
    let number = c.needed-number.result in
    let was = c.loop-m.invariant in
    let needs = c.needed-number.ensures in
    let lt : m < length ms = c.loop-m-test.true in
    let long = c.requires.count in
    let count = was.count in
    let low = was.missing in
    let pushed = c.in_ok-push.ensures.ok in
    let none : Module = record { capacity = 0; cost = 0 } in
    let more = lowered_more (take m ms) (take m cs) c.loop-m.lowered c.loop-m.missing (get_or ms m none) (get_or cs m 0) number
    (omega (arith, long, length-take m ms, length-take m cs)) (omega (arith, count, lt, length-take m ms)) (c.requires.each m none lt) was.lowered needs.fewer needs.few needs.small needs.room in
    record {
      lowered = subst (λ (x : List ℕ). IsLoweredTo (take (m + 1) ms) x c.push.new.self c.saturating_sub-missing.result) (sym (take_more cs m 0 (omega (arith, lt, long))))
          (subst (λ (x : List ℕ). IsLoweredTo (take (m + 1) ms) (take m cs ++ get_or cs m 0 ∷ []) x c.saturating_sub-missing.result) (sym pushed)
          (subst (λ (x : List Module). IsLoweredTo x (take m cs ++ get_or cs m 0 ∷ []) (c.loop-m.lowered ++ number ∷ []) c.saturating_sub-missing.result) (sym (take_more ms m none lt))
          (subst (λ x. IsLoweredTo (take m ms ++ get_or ms m none ∷ []) (take m cs ++ get_or cs m 0 ∷ []) (c.loop-m.lowered ++ number ∷ []) x) (sym c.saturating_sub-missing.ensures) more)));
      count = omega (arith, ap (λ (x : List ℕ). length x) pushed, length_push c.loop-m.lowered number, count);
      missing = omega (arith, low, c.saturating_sub-missing.ensures);
    }
