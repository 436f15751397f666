use Rattle.std.proofs.Common.{length}
use Rattle.simplex_core.specs.Terms.{IsDenominator}
use Rattle.key_paths.specs.inner.Ends.{row_den}
use Rattle.key_paths.proofs.finish.end_of.Goals as goal

pub returns-in_default : goal.returns-in_default
returns-in_default c = rw c.items.ensures at c.in_default.ensures.none

pub values_over-requires-clause-fit : goal.values_over-requires-clause-fit
values_over-requires-clause-fit c =
    let is : IsDenominator (row_den c.args.keyed.now.rows) (length c.args.keyed.now.rows) c.in-Some.den = rw c.items.ensures at c.in-Some.ensures.some in
    c.requires.fit c.in-Some.den is.some is.narrow is.all

pub returns : goal.returns
returns c = λ names same. record {
  names = same;
  den = rw c.items.ensures at c.in-Some.ensures.some;
  count = c.in_ok-values.ensures.count;
  values = c.in_ok-values.ensures.values;
  duals = c.in_ok-duals.ensures.nums;
  duals_den = c.in_ok-duals.ensures.den;
}
