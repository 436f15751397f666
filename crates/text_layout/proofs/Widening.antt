-- columns, one more after another
use Rattle.std.proofs.Common.{◌≡◌, ℕ, zero, suc, ◌+◌, List, [], ◌∷◌, ◌++◌, None, Some, ◌⊎◌, inl, inr, length, length-append, slice_get, refl, sym, ap, subst, arith, ⊎_elim}
use Rattle.net_core.proofs.Library.{slice_get_within}
use Rattle.text_layout.{specs.Cells.{AreWidened, IsWidened}, specs.declared.column.Column.Column}

-- what is at a place of a list with one item more
pushed : {X : Type 0} (xs : List X) (x : X) (k : ℕ) (y : X) → slice_get (xs ++ x ∷ []) k ≡ Some y → (slice_get xs k ≡ Some y) ⊎ ((k ≡ length xs) × (x ≡ y))
pushed [] x zero y same = inr (refl, let e : Some x ≡ Some y = same in cc e)
pushed [] x (suc k) y same = absurd (let e : None ≡ Some y = same in cc e)
pushed (z ∷ xs) x zero y same = inl same
pushed (z ∷ xs) x (suc k) y same = ⊎_elim (λ h. inl h) (λ h. inr (ap suc h.0, h.1)) (pushed xs x k y same)

pub none_widened : (columns : List Column) (rows : List (List (List ℕ))) → AreWidened columns rows 0 []
none_widened columns rows = record { long = refl; each = λ i c w one there. absurd (let lt = slice_get_within [] i w there in omega (arith, lt)) }

pub more_widened : (columns : List Column) (rows : List (List (List ℕ))) (n : ℕ) (wide : List Column) (c w : Column) → AreWidened columns rows n wide
    → slice_get columns n ≡ Some c → IsWidened c rows n w → AreWidened columns rows (n + 1) (wide ++ w ∷ [])
more_widened columns rows n wide c w are at is = record {
  long = omega (arith, length-append wide (w ∷ []), are.long);
  each = λ i d other one there. ⊎_elim
      (λ h. are.each i d other one h)
      (λ h. let same : i ≡ n = omega (arith, h.0, are.long) in
      let column : c ≡ d = cc (at, subst (λ k. slice_get columns k ≡ Some d) same one) in
      subst (λ k. IsWidened d rows k other) (sym same) (subst (λ v. IsWidened d rows n v) h.1 (subst (λ x. IsWidened x rows n w) column is)))
      (pushed wide w i other there);
}
