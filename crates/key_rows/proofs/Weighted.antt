-- the weights of a demand's rows over two denominators
use Rattle.std.proofs.Common.{◌≡◌, ℕ, ℤ, zero, suc, List, pos, length, get_or, ◌+◌, ◌<◌, ◌≤◌, ◌-ℤ◌, ◌*ℤ◌, sym, ap, ◌∙◌, subst, arith, ⊎_elim, ◌<ℤ◌}
use Rattle.net_core.proofs.Library.{*ℤ_comm, zero-*ℤ, cases_eq}
use Rattle.checked_fraction.{specs.Terms.num, specs.declared.row.Row.Row, proofs.Products.{regroup, positive_product}}
use Rattle.simplex_law.{specs.Terms.unit_vector, proofs.Lemmas.{minus_left, moved_out, positive_cancel, unit-other}}
use Rattle.simplex_core.specs.Terms.{den_at}
use Rattle.key_rows.{specs.KeyRows.{IsOwn, AreWeights, times_taken, left_over_rows}, proofs.Left.{left_more, left_none}}

module _ (rows : List Row) (owners : List ℕ) (weights others : List ℤ) (d : ℕ) (all whole : ℤ) (are : AreWeights rows owners weights d all) (be : AreWeights rows owners others d whole) where
  cross : (i : ℕ) → i < length rows → IsOwn owners d i → whole *ℤ num weights i ≡ all *ℤ num others i
  cross i l own =
      let den = den_at rows i in
      ap (λ x. x *ℤ num weights i) (sym (be.each i l own)) ∙ (regroup (num others i) den (num weights i)
      ∙ (ap (λ x. num others i *ℤ x) (*ℤ_comm den (num weights i) ∙ are.each i l own) ∙ *ℤ_comm (num others i) all))

  cross_times : (i : ℕ) → i < length rows → whole *ℤ times_taken owners weights d i ≡ all *ℤ times_taken owners others d i
  cross_times i l =
      let u = unit_vector (get_or owners i 0) d in
      moved_out whole u (num weights i) ∙ (⊎_elim
      (λ own. ap (λ x. u *ℤ x) (cross i l own))
      (λ ne. let none : u ≡ pos 0 = unit-other (get_or owners i 0) d ne in
      ap (λ x. x *ℤ (whole *ℤ num weights i)) none ∙ (zero-*ℤ (whole *ℤ num weights i) ∙ sym (ap (λ x. x *ℤ (all *ℤ num others i)) none ∙ zero-*ℤ (all *ℤ num others i))))
      (cases_eq (get_or owners i 0) d) ∙ sym (moved_out all u (num others i)))

  -- what the rows leave over one denominator, times the other
  pub left_crossed : (own : ℤ) (f : ℕ → ℤ) (n : ℕ) → n ≤ length rows → whole *ℤ left_over_rows owners weights d all own f n ≡ all *ℤ left_over_rows owners others d whole own f n
  left_crossed own f zero le =
      ap (λ x. whole *ℤ x) (left_none owners weights d all own f) ∙ (moved_out whole all own ∙ sym (ap (λ x. all *ℤ x) (left_none owners others d whole own f)))
  left_crossed own f (suc n) le =
      let one : suc n ≡ n + 1 = omega arith in
      subst (λ m. whole *ℤ left_over_rows owners weights d all own f m ≡ all *ℤ left_over_rows owners others d whole own f m) (sym one)
      (ap (λ x. whole *ℤ x) (left_more owners weights d all own f n) ∙ (minus_left (left_over_rows owners weights d all own f n) (times_taken owners weights d n *ℤ f n) whole
      ∙ (ap (λ x. x -ℤ (whole *ℤ (times_taken owners weights d n *ℤ f n))) (left_crossed own f n (omega (arith, le)))
      ∙ (ap (λ x. (all *ℤ left_over_rows owners others d whole own f n) -ℤ x) (term n (omega (arith, le)))
      ∙ (sym (minus_left (left_over_rows owners others d whole own f n) (times_taken owners others d n *ℤ f n) all) ∙ sym (ap (λ x. all *ℤ x) (left_more owners others d whole own f n)))))))
    where
      term : (i : ℕ) → i < length rows → whole *ℤ (times_taken owners weights d i *ℤ f i) ≡ all *ℤ (times_taken owners others d i *ℤ f i)
      term i l = sym (regroup whole (times_taken owners weights d i) (f i)) ∙ (ap (λ x. x *ℤ f i) (cross_times i l) ∙ regroup all (times_taken owners others d i) (f i))

  -- so it is positive over both or over none
  pub left_positive : (own : ℤ) (f : ℕ → ℤ) → pos 0 <ℤ left_over_rows owners weights d all own f (length rows) → pos 0 <ℤ left_over_rows owners others d whole own f (length rows)
  left_positive own f h = positive_cancel all _ are.positive (subst (λ z. pos 0 <ℤ z) (left_crossed own f (length rows) (omega arith)) (positive_product whole _ be.positive h))
