use Rattle.std.proofs.Common.{arith, ℕ, unsigned_abs, ◌*◌, ◌+◌, length}
use Rattle.checked_fraction.specs.Terms.{num}
use Rattle.simplex_core.proofs.Values.{fewer, next_sum}
use Rattle.simplex_core.proofs.value.row_value.Goals as goal

pub returns-then-sums-ge-LIMIT : goal.returns-then-sums-ge-LIMIT
returns-then-sums-ge-LIMIT c =
    let f : ℕ → ℕ = λ k. unsigned_abs (num c.args.nums.now k) * unsigned_abs (num c.args.bounds.now k) in
    omega (arith, c.if-sums-ge-LIMIT.true, c.add.ensures.sizes, c.loop-k.invariant.sizes, next_sum c.loop-k.k f, fewer (c.loop-k.k + 1) (length c.args.nums.now) f (omega arith))
