-- one turn of the simplex method
use Rattle.std.proofs.Common.{◌≡◌, ◌≢◌, ℕ, suc, ◌<◌, refl, sym, ap, ◌∙◌, arith, ◌⊎◌, ⊎_elim, cond, eqb, Bool, true, false, subst, eq-eqb, ne_eqb, ℤ, pos, ◌-ℤ◌, ◌*ℤ◌, ◌<ℤ◌}
use Rattle.net_core.proofs.Library.{cases_eq, ints, by_lt_z}
use Rattle.checked_fraction.{specs.Terms.combined, proofs.Products.positive_product}
use Rattle.simplex_law.{specs.Sums.{dot, unit_vector, put}, specs.Programs.ColumnOf, specs.Bases.IsRow, specs.inner.Lexicographic.{IsLexNonneg, valued}, proofs.Order.{IsLexBelow, Rises, lex_negative, lex_zero, lex_positive, lex_rises, below_scaled}, specs.inner.Tableaux.IsTableau, specs.inner.Pivots.{IsPick, IsTurned}, proofs.Sums.{unit-same, unit-other, dot-none}, proofs.Rows.{multiple, dot-combined, next_row, pivot_row, reduced_row}, proofs.Unique.{valued_scaled, row_unique, same_tableau}, proofs.Filling.{next_nums, next_den, next_filling, same_filling}}

-- the columns of the next basis
entry_put : {N : Type 0} (basis : ℕ → ColumnOf N) (c : ColumnOf N) (r j : ℕ) → (put basis r c j).entry ≡ put (λ i. (basis i).entry) r c.entry j
entry_put basis c r j = by_test (eqb r j)
  where
    by_test : (t : Bool) → (cond t c (basis j)).entry ≡ cond t c.entry (basis j).entry
    by_test true = refl
    by_test false = refl

gain_put : {N : Type 0} (basis : ℕ → ColumnOf N) (c : ColumnOf N) (r j : ℕ) → (put basis r c j).gain ≡ put (λ i. (basis i).gain) r c.gain j
gain_put basis c r j = by_test (eqb r j)
  where
    by_test : (t : Bool) → (cond t c (basis j)).gain ≡ cond t c.gain (basis j).gain
    by_test true = refl
    by_test false = refl

to_basis : {N : Type 0} (m : ℕ) (basis : ℕ → ColumnOf N) (c : ColumnOf N) (r : ℕ) (target nums : ℕ → ℤ) (den : ℤ) → IsRow m (put (λ j. (basis j).entry) r c.entry) target nums den
    → IsRow m (λ j. (put basis r c j).entry) target nums den
to_basis m basis c r target nums den row j lt = ap (λ v. dot m nums v) (entry_put basis c r j) ∙ row j lt

-- the rows of the next basis before they are reduced to lowest terms
pub other_row : {N : Type 0} (m : ℕ) (bound : ℕ → ℤ) (basis : ℕ → ColumnOf N) (nums : ℕ → ℕ → ℤ) (den duals : ℕ → ℤ) (duals_den : ℤ) (c : ColumnOf N) (r i : ℕ)
    → IsTableau m bound basis nums den duals duals_den → IsPick m bound nums duals duals_den c r → i < m → i ≢ r
    → IsRow m (λ j. (put basis r c j).entry) (unit_vector i) (combined (nums i) (dot m (nums i) c.entry) (nums r) (dot m (nums r) c.entry)) (den i *ℤ dot m (nums r) c.entry)
other_row m bound basis nums den duals duals_den c r i s k l ne = to_basis m basis c r (unit_vector i) _ _ (λ j lj.
    next_row m r (λ j. (basis j).entry) (unit_vector i) (nums i) (nums r) c.entry (den i) (den r) (dot m (nums i) c.entry) (dot m (nums r) c.entry) (pos 0)
    (s.rows i l) (s.rows r k.inside) refl (plain (dot m (nums i) c.entry) (den i)) j lj
    ∙ ap (λ x. (den i *ℤ dot m (nums r) c.entry) *ℤ x) (unit_put j))
  where
    plain : (x d : ℤ) → x ≡ x -ℤ (d *ℤ pos 0)
    plain x d = omega (arith, ints)

    unit_put : (j : ℕ) → put (unit_vector i) r (pos 0) j ≡ unit_vector i j
    unit_put j = ⊎_elim
        (λ e. ap (λ t. cond t (pos 0) (unit_vector i j)) (eq-eqb r j e) ∙ sym (unit-other i j (λ f. ne (f ∙ sym e))))
        (λ n. ap (λ t. cond t (pos 0) (unit_vector i j)) (ne_eqb r j n))
        (cases_eq r j)

pub first_row : {N : Type 0} (m : ℕ) (bound : ℕ → ℤ) (basis : ℕ → ColumnOf N) (nums : ℕ → ℕ → ℤ) (den duals : ℕ → ℤ) (duals_den : ℤ) (c : ColumnOf N) (r : ℕ)
    → IsTableau m bound basis nums den duals duals_den → IsPick m bound nums duals duals_den c r
    → IsRow m (λ j. (put basis r c j).entry) (unit_vector r) (nums r) (dot m (nums r) c.entry)
first_row m bound basis nums den duals duals_den c r s k = to_basis m basis c r (unit_vector r) _ _
    (pivot_row m r (λ j. (basis j).entry) (nums r) c.entry (den r) (dot m (nums r) c.entry) (s.rows r k.inside) refl)

pub objective_row : {N : Type 0} (m : ℕ) (bound : ℕ → ℤ) (basis : ℕ → ColumnOf N) (nums : ℕ → ℕ → ℤ) (den duals : ℕ → ℤ) (duals_den : ℤ) (c : ColumnOf N) (r : ℕ)
    → IsTableau m bound basis nums den duals duals_den → IsPick m bound nums duals duals_den c r
    → IsRow m (λ j. (put basis r c j).entry) (λ j. (put basis r c j).gain) (combined duals (dot m duals c.entry -ℤ (duals_den *ℤ c.gain)) (nums r) (dot m (nums r) c.entry)) (duals_den *ℤ dot m (nums r) c.entry)
objective_row m bound basis nums den duals duals_den c r s k j lj =
    to_basis m basis c r (put (λ j. (basis j).gain) r c.gain) _ _
    (next_row m r (λ j. (basis j).entry) (λ j. (basis j).gain) duals (nums r) c.entry duals_den (den r) (dot m duals c.entry -ℤ (duals_den *ℤ c.gain)) (dot m (nums r) c.entry) c.gain
    s.objective (s.rows r k.inside) refl refl) j lj
    ∙ ap (λ x. (duals_den *ℤ dot m (nums r) c.entry) *ℤ x) (sym (gain_put basis c r j))

-- two rows combined with their values in front are the combined row with its value in front
front : (m : ℕ) (b u w : ℕ → ℤ) (p q : ℤ) → IsLexNonneg (suc m) (combined (valued m b u) p (valued m b w) q) → IsLexNonneg (suc m) (valued m b (combined u p w q))
front m b u w p q h = subst (λ x. (pos 0 <ℤ x) ⊎ ((x ≡ pos 0) × IsLexNonneg m (combined u p w q))) (sym (dot-combined m u w b p q)) h

row_lex : (m : ℕ) (b u w : ℕ → ℤ) (p q : ℤ) → pos 0 <ℤ q → IsLexNonneg (suc m) (valued m b u) → IsLexNonneg (suc m) (valued m b w)
    → ((pos 0 <ℤ p) → IsLexNonneg (suc m) (combined (valued m b u) p (valued m b w) q)) → IsLexNonneg (suc m) (valued m b (combined u p w q))
row_lex m b u w p q more hu hw ratio = front m b u w p q (by_lt_z (pos 0) p ratio
    (λ le. by_lt_z p (pos 0)
    (λ less. lex_negative (suc m) (valued m b u) (valued m b w) p q less more hu hw)
    (λ ge. let e : pos 0 ≡ p = omega (arith, ints, le, ge) in subst (λ x. IsLexNonneg (suc m) (combined (valued m b u) x (valued m b w) q)) e (lex_zero (suc m) (valued m b u) (valued m b w) q more hu))))

-- the tableau after a turn, before the rows are reduced to lowest terms
pub turned_raw : {N : Type 0} (m : ℕ) (bound : ℕ → ℤ) (basis : ℕ → ColumnOf N) (nums : ℕ → ℕ → ℤ) (den duals : ℕ → ℤ) (duals_den : ℤ) (c : ColumnOf N) (r : ℕ)
    → IsTableau m bound basis nums den duals duals_den → IsPick m bound nums duals duals_den c r
    → IsTableau m bound (put basis r c)
    (next_nums nums (λ i. dot m (nums i) c.entry) r (dot m (nums r) c.entry)) (next_den den r (dot m (nums r) c.entry))
    (combined duals (dot m duals c.entry -ℤ (duals_den *ℤ c.gain)) (nums r) (dot m (nums r) c.entry)) (duals_den *ℤ dot m (nums r) c.entry)
turned_raw m bound basis nums den duals duals_den c r s k = record {
  rows = λ i l. at_row (λ i u d. IsRow m (λ j. (put basis r c j).entry) (unit_vector i) u d) i
      (first_row m bound basis nums den duals duals_den c r s k)
      (λ ne. other_row m bound basis nums den duals duals_den c r i s k l ne);
  over = λ i l. at_row (λ i u d. pos 0 <ℤ d) i k.positive (λ ne. positive_product (den i) q (s.over i l) k.positive);
  lex = λ i l. at_row (λ i u d. IsLexNonneg (suc m) (valued m bound u)) i (s.lex r k.inside)
      (λ ne. row_lex m bound (nums i) (nums r) (dot m (nums i) c.entry) q k.positive (s.lex i l) (s.lex r k.inside) (k.ratio i l ne));
  objective = objective_row m bound basis nums den duals duals_den c r s k;
  above = positive_product duals_den q s.above k.positive;
  filling = (
    put s.filling.0 r s.filling.1,
    s.filling.1 *ℤ q,
    same_filling m (put (λ j. (basis j).entry) r c.entry) (λ j. (put basis r c j).entry) _ _ _ _ (λ j k lj. ap (λ v. v k) (entry_put basis c r j))
        (next_filling m r (λ j. (basis j).entry) nums den s.filling.0 c.entry s.filling.1 q k.inside k.positive s.filling.2 refl),
  );
}
  where
    q : ℤ
    q = dot m (nums r) c.entry

    mixed : ℕ → ℕ → ℤ
    mixed i = combined (nums i) (dot m (nums i) c.entry) (nums r) q

    at_row : (P : ℕ → (ℕ → ℤ) → ℤ → Type 0) (i : ℕ) → P r (nums r) q → (i ≢ r → P i (mixed i) (den i *ℤ q)) → P i (cond (eqb r i) (nums r) (mixed i)) (cond (eqb r i) q (den i *ℤ q))
    at_row P i first other = ⊎_elim
        (λ e. subst (λ t. P i (cond t (nums r) (mixed i)) (cond t q (den i *ℤ q))) (sym (eq-eqb r i e)) (subst (λ x. P x (nums r) q) e first))
        (λ ne. subst (λ t. P i (cond t (nums r) (mixed i)) (cond t q (den i *ℤ q))) (sym (ne_eqb r i ne)) (other (λ e. ne (sym e))))
        (cases_eq r i)

-- the duals after a turn
next_objective : {N : Type 0} (m : ℕ) (bound : ℕ → ℤ) (basis : ℕ → ColumnOf N) (nums next : ℕ → ℕ → ℤ) (den next_dens duals next_duals : ℕ → ℤ) (duals_den next_duals_den : ℤ) (c : ColumnOf N) (r : ℕ)
    → IsTableau m bound basis nums den duals duals_den → IsPick m bound nums duals duals_den c r → IsTurned m c r nums next den next_dens duals next_duals duals_den next_duals_den
    → IsRow m (λ j. (put basis r c j).entry) (λ j. (put basis r c j).gain) next_duals next_duals_den
next_objective m bound basis nums next den next_dens duals next_duals duals_den next_duals_den c r s k t =
    let f = multiple m _ _ next_duals next_duals_den (positive_product duals_den (dot m (nums r) c.entry) s.above k.positive) t.objective in
    reduced_row m _ _ _ _ _ _ f.0 f.1 (objective_row m bound basis nums den duals duals_den c r s k)

-- the tableau after a turn
pub turned : {N : Type 0} (m : ℕ) (bound : ℕ → ℤ) (basis : ℕ → ColumnOf N) (nums next : ℕ → ℕ → ℤ) (den next_dens duals next_duals : ℕ → ℤ) (duals_den next_duals_den : ℤ) (c : ColumnOf N) (r : ℕ)
    → IsTableau m bound basis nums den duals duals_den → IsPick m bound nums duals duals_den c r → IsTurned m c r nums next den next_dens duals next_duals duals_den next_duals_den
    → IsTableau m bound (put basis r c) next next_dens next_duals next_duals_den
turned m bound basis nums next den next_dens duals next_duals duals_den next_duals_den c r s k t =
    same_tableau m bound (put basis r c) _ _ _ _ (turned_raw m bound basis nums den duals duals_den c r s k) next next_dens next_duals next_duals_den
    (λ i l. (each i l).0) (λ i l. (each i l).1) (next_objective m bound basis nums next den next_dens duals next_duals duals_den next_duals_den c r s k t) t.objective.positive
  where
    q : ℤ
    q = dot m (nums r) c.entry

    each : (i : ℕ) → i < m → IsRow m (λ j. (put basis r c j).entry) (unit_vector i) (next i) (next_dens i) × (pos 0 <ℤ next_dens i)
    each i l = ⊎_elim
        (λ e. subst (λ x. IsRow m (λ j. (put basis r c j).entry) (unit_vector x) (next x) (next_dens x) × (pos 0 <ℤ next_dens x)) e
        (let f = multiple m _ _ (next r) (next_dens r) k.positive t.pivot in
        (reduced_row m _ _ _ _ _ _ f.0 f.1 (first_row m bound basis nums den duals duals_den c r s k), t.pivot.positive)))
        (λ ne. let own = t.others i l (λ e. ne (sym e)) in
        let f = multiple m _ _ (next i) (next_dens i) (positive_product (den i) q (s.over i l) k.positive) own in
        (reduced_row m _ _ _ _ _ _ f.0 f.1 (other_row m bound basis nums den duals duals_den c r i s k l (λ e. ne (sym e))), own.positive))
        (cases_eq r i)

-- the numbers of a row of the inverse aren't all 0
pub some_number : (m r : ℕ) (b : ℕ → ℤ) (basic : ℕ → ℕ → ℤ) (w : ℕ → ℤ) (e : ℤ) → r < m → IsRow m basic (unit_vector r) w e → pos 0 <ℤ e → ((k : ℕ) → k < suc m → valued m b w k ≡ pos 0) → ⊥
some_number m r b basic w e rm row pe all =
    let z = dot-none m w (basic r) (λ k l. all (suc k) (omega arith)) in
    let one : e *ℤ unit_vector r r ≡ e = ap (λ t. e *ℤ t) (unit-same r) ∙ omega (arith, ints) in
    let is = row r rm in omega (arith, ints, z, one, is, pe)

-- any duals of the next basis, with their value, are above those of the basis before
pub rises_to : {N : Type 0} (m : ℕ) (bound : ℕ → ℤ) (basis : ℕ → ColumnOf N) (nums : ℕ → ℕ → ℤ) (den duals : ℕ → ℤ) (duals_den : ℤ) (c : ColumnOf N) (r : ℕ) (later : ℕ → ℤ) (later_den : ℤ)
    → IsTableau m bound basis nums den duals duals_den → IsPick m bound nums duals duals_den c r
    → IsRow m (λ j. (put basis r c j).entry) (λ j. (put basis r c j).gain) later later_den → pos 0 <ℤ later_den
    → Rises m bound duals duals_den later later_den
rises_to m bound basis nums den duals duals_den c r later later_den s k row above =
    let p = dot m duals c.entry -ℤ (duals_den *ℤ c.gain) in let q = dot m (nums r) c.entry in
    let h = lex_rises (suc m) (valued m bound duals) (valued m bound (nums r)) p q duals_den k.gains k.positive s.above
    (lex_positive (suc m) (valued m bound (nums r)) (s.lex r k.inside) (some_number m r bound (λ j. (basis j).entry) (nums r) (den r) k.inside (s.rows r k.inside) (s.over r k.inside))) in
    let raw : IsLexBelow (suc m) (valued m bound duals) duals_den (valued m bound (combined duals p (nums r) q)) (duals_den *ℤ q) =
    subst (λ x. ((dot m duals bound *ℤ (duals_den *ℤ q)) <ℤ (x *ℤ duals_den)) ⊎ ((dot m duals bound *ℤ (duals_den *ℤ q) ≡ x *ℤ duals_den) × IsLexBelow m duals duals_den (combined duals p (nums r) q) (duals_den *ℤ q)))
    (sym (dot-combined m duals (nums r) bound p q)) h in
    let next = turned_raw m bound basis nums den duals duals_den c r s k in
    below_scaled (suc m) (valued m bound duals) (valued m bound (combined duals p (nums r) q)) (valued m bound later) duals_den (duals_den *ℤ q) later_den
    (positive_product duals_den q s.above k.positive) above
    (valued_scaled m bound (combined duals p (nums r) q) later (duals_den *ℤ q) later_den (λ y ly.
    row_unique m (λ j. (put basis r c j).entry) _ _ next.filling.0 next.filling.1 (λ j. (put basis r c j).gain) (combined duals p (nums r) q) later (duals_den *ℤ q) later_den y next.filling.2 next.objective row ly))
    raw

-- the next duals in lowest terms, with their value, are above those of the basis before
pub rises : {N : Type 0} (m : ℕ) (bound : ℕ → ℤ) (basis : ℕ → ColumnOf N) (nums next : ℕ → ℕ → ℤ) (den next_dens duals next_duals : ℕ → ℤ) (duals_den next_duals_den : ℤ) (c : ColumnOf N) (r : ℕ)
    → IsTableau m bound basis nums den duals duals_den → IsPick m bound nums duals duals_den c r → IsTurned m c r nums next den next_dens duals next_duals duals_den next_duals_den
    → Rises m bound duals duals_den next_duals next_duals_den
rises m bound basis nums next den next_dens duals next_duals duals_den next_duals_den c r s k t = rises_to m bound basis nums den duals duals_den c r next_duals next_duals_den s k
    (next_objective m bound basis nums next den next_dens duals next_duals duals_den next_duals_den c r s k t) t.objective.positive
