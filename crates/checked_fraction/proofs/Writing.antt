-- numbers written one by one
use Rattle.std.proofs.Common.{ℕ, ℤ, List, pos, length, slice_set, ◌≡◌, ◌+◌, ◌<◌, ◌≤◌, sym, subst, ◌∙◌, arith, ⊎_elim, get_or-set_same, get_or-set_other}
use Rattle.net_core.proofs.Library.{cases_eq}
use Rattle.checked_fraction.specs.Rows.{num, IsNarrow}

-- the first k numbers are those of f, the others as they were
pub record IsWritten (now first : List ℤ) (f : ℕ → ℤ) (k : ℕ) : Type 0 where
  pub done : (i : ℕ) → i < k → num now i ≡ f i
  pub rest : (i : ℕ) → k ≤ i → num now i ≡ num first i
  pub narrow : (i : ℕ) → IsNarrow (num now i)

pub write_one : (now first : List ℤ) (f : ℕ → ℤ) (k : ℕ) (v : ℤ) → k < length now → v ≡ f k → IsNarrow v → IsWritten now first f k → IsWritten (slice_set now k v) first f (k + 1)
write_one now first f k v lt is narrow w = record {
  done = λ i l. ⊎_elim
      (λ e. subst (λ j. num (slice_set now k v) j ≡ f j) (sym e) (get_or-set_same now k v (pos 0) lt ∙ is))
      (λ ne. get_or-set_other now k i v (pos 0) ne ∙ w.done i (omega arith))
      (cases_eq i k);
  rest = λ i l. get_or-set_other now k i v (pos 0) (λ e. omega arith) ∙ w.rest i (omega arith);
  narrow = λ i. ⊎_elim
      (λ e. subst (λ j. IsNarrow (num (slice_set now k v) j)) (sym e) (subst IsNarrow (sym (get_or-set_same now k v (pos 0) lt)) narrow))
      (λ ne. subst IsNarrow (sym (get_or-set_other now k i v (pos 0) ne)) (w.narrow i))
      (cases_eq i k);
}
