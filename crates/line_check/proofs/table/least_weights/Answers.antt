use Rattle.std.proofs.Common.{◌≡◌, ◌+◌, [], ◌∷◌, ◌++◌, ◌∙◌, ap, arith, length, length-append, slice_index, subst, sym, take}
use Rattle.line_check.{specs.CoverWeights.IsLeastWeight, specs.inner.Rows.IsNextRow, proofs.Rows.{IsStep, bounds_more, least_at, listed_more}}
use Rattle.line_check.proofs.table.least_weights.Goals as goal

pub loop-k-preserved : goal.loop-k-preserved
loop-k-preserved c =
    let sizes = c.args.sizes.now in
    let weights = c.args.weights.now in
    let k = c.loop-k.k in
    let row = c.in_ok-row-2.row in
    let last = slice_index row c.args.need in
    let step : IsStep sizes weights c.loop-k.row row k c.args.need = record {
      inside = c.loop-k-test.true;
      same = c.requires.same;
      some = c.requires.positive k 0 c.loop-k-test.true;
      light = omega (arith, c.type_inv.weights k);
      known = c.loop-k.invariant.bounds;
      made = subst (λ xs. IsNextRow xs (slice_index sizes k) (slice_index weights k) row) c.items.ensures c.in_ok-row-2.ensures.next;
      count = c.loop-k.invariant.count;
      few = c.requires.few;
    } in
    let all : c.push.new.self ≡ c.loop-k.least ++ last ∷ [] =
    c.in_ok-push.ensures.ok ∙ ap (λ xs. c.loop-k.least ++ slice_index xs c.args.need ∷ []) c.items-in-loop-k.ensures in
    record {
      many = omega (arith, ap length all, length-append c.loop-k.least (last ∷ []), c.loop-k.invariant.many);
      least = λ j lt. subst (λ xs. IsLeastWeight (take (j + 1) sizes) (take (j + 1) weights) c.args.need (slice_index xs j)) (sym all)
          (listed_more (λ i n. IsLeastWeight (take (i + 1) sizes) (take (i + 1) weights) c.args.need n) c.loop-k.least k last
          c.loop-k.invariant.many c.loop-k.invariant.least (least_at sizes weights c.loop-k.row row k c.args.need step) j lt);
      count = omega (arith, step.made.same, c.loop-k.invariant.count);
      small = c.in_ok-row-2.ensures.small;
      bounds = bounds_more sizes weights c.loop-k.row row k c.args.need step;
    }
