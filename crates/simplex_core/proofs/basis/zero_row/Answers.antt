use Rattle.std.proofs.Common.{arith, ap, subst, sym, length}
use Rattle.net_core.proofs.Library.{ints, eq-one_of_dvd-one}
use Rattle.checked_fraction.specs.Terms.{num, IsNarrow}
use Rattle.simplex_core.proofs.Starts.{zeros_num, zeros_length}
use Rattle.simplex_core.proofs.basis.zero_row.Goals as goal

pub invariant_of-result : goal.invariant_of-result
invariant_of-result c = record {
  positive = omega (arith, ints);
  narrow = λ k. subst (λ xs. IsNarrow (num xs k)) (sym c.in_ok-nums.ensures) (subst IsNarrow (sym (zeros_num c.args.n k)) (omega (arith, ints)));
  narrow_den = omega arith;
  lowest = λ d dd all. eq-one_of_dvd-one dd;
  short = omega (arith, ap length c.in_ok-nums.ensures, zeros_length c.args.n);
}
