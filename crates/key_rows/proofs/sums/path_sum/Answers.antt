use Rattle.std.proofs.Common.{arith, length, pos}
use Rattle.net_core.proofs.Library.{ints}
use Rattle.checked_fraction.specs.Terms.{num}
use Rattle.simplex_law.proofs.Lemmas.{sparse}
use Rattle.key_rows.proofs.Paths.{sum_rest, sum_end}
use Rattle.key_rows.proofs.sums.path_sum.Goals as goal

pub loop-link-preserved : goal.loop-link-preserved
loop-link-preserved c = record {
  sum = omega (arith, ints, c.add.ensures.value, c.loop-link.invariant.sum, sum_rest (num c.args.nums.now) c.args.path.now c.loop-link.link-index (record { 0 = 0 }) c.loop-link-test.true);
  bound = omega (arith, c.add.ensures.bound, c.loop-link.invariant.bound);
}

pub returns-clause-value : goal.returns-clause-value
returns-clause-value c = omega (
  arith,
  ints,
  c.loop-link.invariant.sum,
  sum_end (num c.args.nums.now) c.args.path.now c.loop-link.link-index (omega arith),
  sparse (λ l. l.0) (λ l. pos 1) (length c.args.nums.now) (num c.args.nums.now) c.args.path.now c.requires.path.0,
)
