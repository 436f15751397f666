use Rattle.std.proofs.Common.{sym, subst, arith, length-set}
use Rattle.net_core.proofs.Library.{eq-one_of_dvd-one, length-replicate}
use Rattle.checked_fraction.{specs.Rows.{num, IsNarrow}, proofs.Units.unit_narrow}
use Rattle.checked_fraction.proofs.row.Row.unit.Goals as goal

pub invariant_of-result-clause-narrow : goal.invariant_of-result-clause-narrow
invariant_of-result-clause-narrow c = λ k. subst (λ nums. IsNarrow (num nums k)) (sym c.in_ok-nums.ensures) (unit_narrow _ _ k c.requires)

pub invariant_of-result-clause-lowest : goal.invariant_of-result-clause-lowest
invariant_of-result-clause-lowest c = λ d divides all. eq-one_of_dvd-one divides

pub invariant_of-result-clause-short : goal.invariant_of-result-clause-short
invariant_of-result-clause-short c = rw (c.in_ok-nums.ensures, length-set, length-replicate) (omega arith)
