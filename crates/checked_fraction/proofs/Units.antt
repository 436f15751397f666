-- unit rows
use Rattle.std.proofs.Common.{◌≡◌, ◌<◌, ℕ, pos, replicate, slice_set, sym, subst, ⊎_elim, arith, get_or-set_same, get_or-set_other}
use Rattle.net_core.proofs.Library.{cases_eq, cases_lt, get_or-replicate, get_or_past, length-replicate}
use Rattle.checked_fraction.specs.Rows.{num, IsNarrow}

pub zeros_narrow : (n k : ℕ) → IsNarrow (num (replicate n (pos 0)) k)
zeros_narrow n k = subst IsNarrow
    (sym (⊎_elim
    (λ l. get_or-replicate n k (pos 0) (pos 0) l)
    (λ ge. get_or_past (replicate n (pos 0)) k (pos 0) (omega (arith, length-replicate n (pos 0))))
    (cases_lt k n)))
    (omega arith)

pub unit_there : (n at : ℕ) → at < n → num (slice_set (replicate n (pos 0)) at (pos 1)) at ≡ pos 1
unit_there n at lt = get_or-set_same (replicate n (pos 0)) at (pos 1) (pos 0) (omega (arith, length-replicate n (pos 0)))

pub unit_narrow : (n at k : ℕ) → at < n → IsNarrow (num (slice_set (replicate n (pos 0)) at (pos 1)) k)
unit_narrow n at k lt = ⊎_elim
    (λ e. subst IsNarrow (sym (subst (λ i. num (slice_set (replicate n (pos 0)) at (pos 1)) i ≡ pos 1) (sym e) (unit_there n at lt))) (omega arith))
    (λ ne. subst IsNarrow (sym (get_or-set_other (replicate n (pos 0)) at k (pos 1) (pos 0) ne)) (zeros_narrow n k))
    (cases_eq k at)
