-- the values of a basis with keys over a common denominator
use Rattle.std.proofs.Common.{◌≡◌, ℕ, zero, suc, List, [], ◌∷◌, Some, length, get_or, slice_get, unsigned_abs, ◌<◌, ◌≤◌, ◌+◌, ◌-◌, ◌*◌, ◌/◌, ◌++◌, refl, sym, ap, ◌∙◌, subst, arith, ⊎_elim, ℤ, pos, ◌+ℤ◌, ◌-ℤ◌, ◌*ℤ◌, ◌≤ℤ◌}
use Rattle.net_core.proofs.Library.{◌∣◌, ints, get_or_append_left, get_or-append_right}
use Rattle.checked_fraction.{specs.Terms.{num, IsNarrow, IsInLowestTerms}, specs.declared.row.Row.Row}
use Rattle.simplex_law.specs.Terms.{unit_vector}
use Rattle.simplex_core.specs.Terms.{den_of}
use Rattle.key_rows.{specs.Terms.{amounts, times_taken, weighted}, specs.declared.keyed.Keyed.Keyed}
use Rattle.key_paths.specs.inner.Ends.{row_den, shares, key_over, FitOver}

-- the denominator of a row that is given
pub row_den_at : (rows : List Row) (i : ℕ) (row : Row) → slice_get rows i ≡ Some row → unsigned_abs row.den ≡ row_den rows i
row_den_at rows i row at = ap (λ o. unsigned_abs (den_of o)) (sym at)

pub share_at : (rows : List Row) (all i : ℕ) → i < length rows → num (shares rows all) i ≡ pos (all / row_den rows i)
share_at [] all i l = absurd (omega arith)
share_at (row ∷ rows) all zero l = refl
share_at (row ∷ rows) all (suc i) l = share_at rows all i (omega (arith, l))

module _ (b : Keyed) (all d : ℕ) where
  -- one row more
  key_more : (n : ℕ) → key_over b all d (n + 1) ≡ key_over b all d n -ℤ (times_taken b.owners (shares b.rows all) d n *ℤ amounts b.values n)
  key_more n = subst (λ m. key_over b all d m ≡ key_over b all d n -ℤ (times_taken b.owners (shares b.rows all) d n *ℤ amounts b.values n)) (one_more n)
      (apart (pos all *ℤ num b.bounds (length b.rows + d)) (weighted b.owners (shares b.rows all) d (amounts b.values) n) (times_taken b.owners (shares b.rows all) d n *ℤ amounts b.values n))
    where
      one_more : (n : ℕ) → suc n ≡ n + 1
      one_more n = omega arith

      apart : (x s t : ℤ) → x -ℤ (s +ℤ t) ≡ (x -ℤ s) -ℤ t
      apart x s t = omega (arith, ints)

  -- what a row takes of the bound
  pub own_is : (n : ℕ) (row : Row) (owner value own : ℕ) → n < length b.rows → slice_get b.rows n ≡ Some row → owner ≡ get_or b.owners n 0 → value ≡ get_or b.values n 0
      → pos own ≡ (unit_vector owner d *ℤ pos (all / unsigned_abs row.den)) *ℤ pos value → pos own ≡ times_taken b.owners (shares b.rows all) d n *ℤ amounts b.values n
  own_is n row owner value own l at of is e =
      let share : pos (all / unsigned_abs row.den) ≡ num (shares b.rows all) n = ap (λ x. pos (all / x)) (row_den_at b.rows n row at) ∙ sym (share_at b.rows all n l) in
      e ∙ (ap (λ x. (unit_vector x d *ℤ pos (all / unsigned_abs row.den)) *ℤ pos value) of
      ∙ (ap (λ x. (unit_vector (get_or b.owners n 0) d *ℤ x) *ℤ pos value) share ∙ ap (λ x. (unit_vector (get_or b.owners n 0) d *ℤ num (shares b.rows all) n) *ℤ pos x) is))

  module _ (n own left : ℕ) (fit : FitOver b all) (ld : d < length b.duals) (l : n < length b.rows)
      (own_is : pos own ≡ times_taken b.owners (shares b.rows all) d n *ℤ amounts b.values n) (left_is : pos left ≡ key_over b all d n) where
    -- a row takes no more than is left
    pub takes_less : own ≤ left
    takes_less = below (fit.keys d (n + 1) ld (omega (arith, l))) (key_more n) own_is left_is
      where
        below : {x y t : ℤ} → pos 0 ≤ℤ x → x ≡ y -ℤ t → pos own ≡ t → pos left ≡ y → own ≤ left
        below {x} {y} {t} h e f g = omega (arith, ints, h, e, f, g)

    pub left_next : pos (left - own) ≡ key_over b all d (n + 1)
    left_next = less (key_more n) own_is left_is takes_less
      where
        less : {x y t : ℤ} → x ≡ y -ℤ t → pos own ≡ t → pos left ≡ y → own ≤ left → pos (left - own) ≡ x
        less {x} {y} {t} e f g h = omega (arith, ints, e, f, g, h)

-- lowest terms of the first numbers are those of all
pub lowest_more : (nums others : List ℤ) (den : ℤ) → IsInLowestTerms (length nums) (num nums) den → IsInLowestTerms (length (nums ++ others)) (num (nums ++ others)) den
lowest_more nums others den low g of_den of_nums = low g of_den (λ k l.
    subst (λ x. g ∣ unsigned_abs x) (get_or_append_left nums others (pos 0) k l) (of_nums k (longer nums k l)))
  where
    longer : (nums : List ℤ) (k : ℕ) → k < length nums → k < length (nums ++ others)
    longer nums k l = grind (arith, Rattle.std.proofs.Common.length-append)

pub narrow_more : (nums others : List ℤ) → ((k : ℕ) → IsNarrow (num nums k)) → ((k : ℕ) → IsNarrow (num others k)) → (k : ℕ) → IsNarrow (num (nums ++ others) k)
narrow_more nums others first second k = ⊎_elim
    (λ l. subst IsNarrow (sym (get_or_append_left nums others (pos 0) k l)) (first k))
    (λ ge. subst IsNarrow (sym (get_or-append_right nums others (length nums) k (pos 0) refl ge)) (second (k - length nums)))
    (Rattle.std.proofs.lemmas.Bool.cases_lt k (length nums))

-- one list after another
pub joined : {out between start first second nums others : List ℤ} → out ≡ between ++ second → between ≡ start ++ first → start ≡ [] → first ≡ nums → second ≡ others → out ≡ nums ++ others
joined {out} {between} {start} {first} {second} {nums} {others} a b c d e =
    a ∙ (ap (λ xs. xs ++ second) (b ∙ (ap (λ xs. xs ++ first) c ∙ d)) ∙ ap (λ xs. nums ++ xs) e)
