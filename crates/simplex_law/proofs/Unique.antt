-- the rows of a basis are unique but for a factor, so any of them make a tableau
use Rattle.std.proofs.Common.{◌≡◌, ℕ, zero, suc, ◌<◌, sym, ap, ◌∙◌, arith, ⊎_elim, cond, subst, eq-eqb, ne_eqb, ℤ, pos, ◌*ℤ◌, ◌<ℤ◌}
use Rattle.net_core.proofs.Library.{cases_eq, *ℤ_comm, *ℤ-zero, ints}
use Rattle.checked_fraction.proofs.Products.{regroup, positive_product, cancelled}
use Rattle.simplex_law.{specs.Sums.{int_sum, dot, unit_vector, put}, specs.Programs.ColumnOf, specs.Bases.IsRow, specs.inner.Lexicographic.valued, specs.inner.Tableaux.{IsFilling, IsTableau}, proofs.Arithmetic.{swap_last, moved_out}, proofs.Sums.{sum-same, sum-times, sum-one, unit-same, unit-other, dot-times}, proofs.Duality.priced, proofs.Order.lex_scaled}

-- products with numbers that are equal but for factors
pub dot_scaled : (m : ℕ) (u v a : ℕ → ℤ) (d e : ℤ) → ((l : ℕ) → l < m → e *ℤ u l ≡ d *ℤ v l) → e *ℤ dot m u a ≡ d *ℤ dot m v a
dot_scaled m u v a d e same = sym (dot-times m e u a) ∙ (sum-same m _ _ (λ l ll. ap (λ t. t *ℤ a l) (same l ll)) ∙ dot-times m d v a)

pub valued_scaled : (m : ℕ) (bound u v : ℕ → ℤ) (d e : ℤ) → ((l : ℕ) → l < m → e *ℤ u l ≡ d *ℤ v l) → (k : ℕ) → k < suc m → e *ℤ valued m bound u k ≡ d *ℤ valued m bound v k
valued_scaled m bound u v d e same zero lk = dot_scaled m u v bound d e same
valued_scaled m bound u v d e same (suc k) lk = same k (omega (arith, lk))

-- weights that bring denominators to a common one
pub weights : (n : ℕ) (den : ℕ → ℤ) → ((j : ℕ) → j < n → pos 0 <ℤ den j) → (w : ℕ → ℤ) × (all : ℤ) × (pos 0 <ℤ all) × ((j : ℕ) → j < n → w j *ℤ den j ≡ all)
weights zero den over = ((λ j. pos 0), pos 1, omega (arith, ints), λ j l. absurd (omega (arith, l)))
weights (suc n) den over =
    let before = weights n den (λ j l. over j (omega (arith, l))) in
    let w = before.0 in let all = before.1 in (
      put (λ j. w j *ℤ den n) n all,
      all *ℤ den n,
      positive_product all (den n) before.2 (over n (omega arith)),
      λ j l. ⊎_elim
          (λ e. subst (λ t. cond t all (w j *ℤ den n) *ℤ den j ≡ all *ℤ den n) (sym (eq-eqb n j e)) (ap (λ x. all *ℤ den x) (sym e)))
          (λ ne. subst (λ t. cond t all (w j *ℤ den n) *ℤ den j ≡ all *ℤ den n) (sym (ne_eqb n j ne))
          (swap_last (w j) (den n) (den j) ∙ ap (λ x. x *ℤ den n) (before.3 j (omega (arith, l, ne)))))
          (cases_eq n j),
    )

module _ (m : ℕ) (basic nums : ℕ → ℕ → ℤ) (den w : ℕ → ℤ) (all : ℤ) where
  -- the numbers of a row, from what it takes
  by_filling : (target u : ℕ → ℤ) (d : ℤ) (l : ℕ) → IsFilling m basic nums den w all → IsRow m basic target u d → l < m
      → all *ℤ u l ≡ d *ℤ int_sum m (λ j. (w j *ℤ nums j l) *ℤ target j)
  by_filling target u d l h row lt =
      sym (sum-one m l (λ k. u k *ℤ int_sum m (λ j. (w j *ℤ nums j l) *ℤ basic j k)) (all *ℤ u l) lt
      (λ k lk ne. ap (λ x. u k *ℤ x) (h.filled k l lk lt ∙ (ap (λ x. all *ℤ x) (unit-other k l ne) ∙ *ℤ-zero all)) ∙ *ℤ-zero (u k))
      (ap (λ x. u l *ℤ x) (h.filled l l lt lt ∙ ap (λ x. all *ℤ x) (unit-same l)) ∙ one (u l) all))
      ∙ (sym (priced m m (λ j. w j *ℤ nums j l) u basic)
      ∙ (sum-same m _ (λ j. d *ℤ ((w j *ℤ nums j l) *ℤ target j)) (λ j lj. ap (λ x. (w j *ℤ nums j l) *ℤ x) (row j lj) ∙ moved_out (w j *ℤ nums j l) d (target j))
      ∙ sum-times m d (λ j. (w j *ℤ nums j l) *ℤ target j)))
    where
      one : (x a : ℤ) → x *ℤ (a *ℤ pos 1) ≡ a *ℤ x
      one x a = ap (λ s. x *ℤ s) (omega (arith, ints)) ∙ *ℤ_comm x a

  -- two rows that take equal values are equal but for a factor
  pub row_unique : (target u v : ℕ → ℤ) (d e : ℤ) (l : ℕ) → IsFilling m basic nums den w all → IsRow m basic target u d → IsRow m basic target v e → l < m
      → e *ℤ u l ≡ d *ℤ v l
  row_unique target u v d e l h row other lt =
      cancelled all (e *ℤ u l) (d *ℤ v l) h.positive
      (moved_out all e (u l) ∙ (ap (λ x. e *ℤ x) (by_filling target u d l h row lt) ∙ (moved_out e d (int_sum m (λ j. (w j *ℤ nums j l) *ℤ target j))
      ∙ (ap (λ x. d *ℤ x) (sym (by_filling target v e l h other lt)) ∙ moved_out d all (v l)))))

-- rows over other denominators fill as well
pub other_rows : (m : ℕ) (basic nums others : ℕ → ℕ → ℤ) (den dens w v : ℕ → ℤ) (all total : ℤ) → ((j : ℕ) → j < m → pos 0 <ℤ den j)
    → ((j l : ℕ) → j < m → l < m → dens j *ℤ nums j l ≡ den j *ℤ others j l) → pos 0 <ℤ total → ((j : ℕ) → j < m → v j *ℤ dens j ≡ total)
    → IsFilling m basic nums den w all → IsFilling m basic others dens v total
other_rows m basic nums others den dens w v all total over same pt are h = record {
  positive = pt;
  weights = are;
  filled = λ k l lk ll.
      let scaled : all *ℤ int_sum m (λ j. (v j *ℤ others j l) *ℤ basic j k) ≡ total *ℤ int_sum m (λ j. (w j *ℤ nums j l) *ℤ basic j k) =
      sym (sum-times m all (λ j. (v j *ℤ others j l) *ℤ basic j k))
      ∙ (sum-same m _ _ (λ j lj. crossed (w j) (v j) (den j) (dens j) (nums j l) (others j l) (basic j k) (h.weights j lj) (are j lj) (same j l lj ll))
      ∙ sum-times m total (λ j. (w j *ℤ nums j l) *ℤ basic j k)) in
      cancelled all (int_sum m (λ j. (v j *ℤ others j l) *ℤ basic j k)) (total *ℤ unit_vector k l) h.positive
      (scaled ∙ (ap (λ s. total *ℤ s) (h.filled k l lk ll) ∙ moved_out total all (unit_vector k l)));
}
  where
    crossed : (a b d e n o c : ℤ) → a *ℤ d ≡ all → b *ℤ e ≡ total → e *ℤ n ≡ d *ℤ o → all *ℤ ((b *ℤ o) *ℤ c) ≡ total *ℤ ((a *ℤ n) *ℤ c)
    crossed a b d e n o c ea eb same =
        let left : all *ℤ (b *ℤ o) ≡ (a *ℤ b) *ℤ (d *ℤ o) = ap (λ x. x *ℤ (b *ℤ o)) (sym ea) ∙ pairs a d b o in
        let right : total *ℤ (a *ℤ n) ≡ (b *ℤ a) *ℤ (e *ℤ n) = ap (λ x. x *ℤ (a *ℤ n)) (sym eb) ∙ pairs b e a n in
        let both : all *ℤ (b *ℤ o) ≡ total *ℤ (a *ℤ n) = left ∙ (ap (λ x. (a *ℤ b) *ℤ x) (sym same) ∙ (ap (λ x. x *ℤ (e *ℤ n)) (*ℤ_comm a b) ∙ sym right)) in
        sym (regroup all (b *ℤ o) c) ∙ (ap (λ x. x *ℤ c) both ∙ regroup total (a *ℤ n) c)
      where
        pairs : (a d b o : ℤ) → (a *ℤ d) *ℤ (b *ℤ o) ≡ (a *ℤ b) *ℤ (d *ℤ o)
        pairs a d b o = regroup a d (b *ℤ o) ∙ (ap (λ x. a *ℤ x) (moved_out d b o) ∙ sym (regroup a b (d *ℤ o)))

module _ {N : Type 0} (m : ℕ) (bound : ℕ → ℤ) (basis : ℕ → ColumnOf N) (nums : ℕ → ℕ → ℤ) (den duals : ℕ → ℤ) (duals_den : ℤ) (s : IsTableau m bound basis nums den duals duals_den) where
  -- any row of the inverse is that of the tableau but for a factor
  pub inverse_unique : (j : ℕ) (u : ℕ → ℤ) (d : ℤ) (l : ℕ) → j < m → IsRow m (λ i. (basis i).entry) (unit_vector j) u d → l < m → d *ℤ nums j l ≡ den j *ℤ u l
  inverse_unique j u d l lj row ll = row_unique m (λ i. (basis i).entry) nums den s.filling.0 s.filling.1 (unit_vector j) (nums j) u (den j) d l s.filling.2 (s.rows j lj) row ll

  -- the value of any row of the inverse is that of the tableau's row but for a factor
  pub value_unique : (j : ℕ) (u : ℕ → ℤ) (d : ℤ) (k : ℕ) → j < m → IsRow m (λ i. (basis i).entry) (unit_vector j) u d → k < suc m → d *ℤ valued m bound (nums j) k ≡ den j *ℤ valued m bound u k
  value_unique j u d k lj row lk = valued_scaled m bound (nums j) u (den j) d (λ l ll. inverse_unique j u d l lj row ll) k lk

  -- any rows of the inverse of a basis that has a tableau, and any objective row, make a tableau
  pub same_tableau : (others : ℕ → ℕ → ℤ) (dens : ℕ → ℤ) (prices : ℕ → ℤ) (prices_den : ℤ)
      → ((j : ℕ) → j < m → IsRow m (λ i. (basis i).entry) (unit_vector j) (others j) (dens j)) → ((j : ℕ) → j < m → pos 0 <ℤ dens j)
      → IsRow m (λ j. (basis j).entry) (λ j. (basis j).gain) prices prices_den → pos 0 <ℤ prices_den
      → IsTableau m bound basis others dens prices prices_den
  same_tableau others dens prices prices_den rows over objective above = record {
    rows = rows;
    over = over;
    lex = λ j l. lex_scaled (suc m) (valued m bound (nums j)) (valued m bound (others j)) (dens j) (den j) (over j l) (s.over j l)
        (λ k lk. value_unique j (others j) (dens j) k l (rows j l) lk) (s.lex j l);
    objective = objective;
    above = above;
    filling =
        let w = weights m dens over in (
          w.0,
          w.1,
          other_rows m (λ j. (basis j).entry) nums others den dens s.filling.0 w.0 s.filling.1 w.1 s.over
              (λ j l lj ll. inverse_unique j (others j) (dens j) l lj (rows j lj) ll) w.2 w.3 s.filling.2,
        );
  }
