use Rattle.std.proofs.Common.{arith, pos, length}
use Rattle.net_core.proofs.Library.{ints}
use Rattle.checked_fraction.specs.Terms.{num}
use Rattle.simplex_law.proofs.Lemmas.{sparse}
use Rattle.simplex_core.proofs.Entries.{dot_rest, dot_end, inside_all}
use Rattle.simplex_core.proofs.product.add_entries.Goals as goal

pub loop-entry-preserved : goal.loop-entry-preserved
loop-entry-preserved c = record {
  sum = omega (arith, ints, c.add.ensures.total, c.loop-entry.invariant.sum, dot_rest (num c.args.nums.now) c.args.entries.now c.loop-entry.entry-index (record { row = 0; value = pos 0 }) c.loop-entry-test.true);
  high = omega (arith, c.add.ensures.high, c.loop-entry.invariant.high);
  low = omega (arith, c.add.ensures.low, c.loop-entry.invariant.low);
}

pub returns-clause-total : goal.returns-clause-total
returns-clause-total c =
    let nums = c.args.nums.now in
    omega (
      arith,
      ints,
      c.loop-entry.invariant.sum,
      dot_end (num nums) c.args.entries.now c.loop-entry.entry-index (omega arith),
      sparse (λ e. e.row) (λ e. e.value) (length nums) (num nums) c.args.entries.now (inside_all (length nums) c.args.entries.now c.requires.entries),
    )
