-- rows of an inverse over lengths are rows of the inverse of the master program, up to positive numbers
use Rattle.std.proofs.Common.{◌≡◌, ◌≢◌, ℕ, zero, suc, ◌*◌, ◌<◌, cond, eqb, mul-pos, refl, sym, ap, ◌∙◌, subst, ⊎_elim, arith, eq-eqb, ne_eqb, ℤ, pos, ◌*ℤ◌, ◌<ℤ◌, ◌≤ℤ◌}
use Rattle.net_core.proofs.Library.{cases_eq, *ℤ-zero, *ℤ_comm, pos-*ℤ-pos}
use Rattle.checked_fraction.proofs.Products.{regroup}
use Rattle.simplex_law.{specs.Terms.{dot, int_sum, unit_vector}, proofs.Duality.equal_value, proofs.Lemmas.{dot-unit, le_cancel, sum-same, sum-times, sum-unit, swap_last, times_nonneg, unit-other, weaken}}

-- a number that the first n capacities divide, apart from those that are 0, with its parts
pub record HasMultiple (n : ℕ) (c : ℕ → ℕ) : Type 0 where
  pub all : ℕ
  pub some : 0 < all
  pub parts : ℕ → ℕ
  pub parts_some : (e : ℕ) → 0 < parts e
  pub each : (e : ℕ) → e < n → 0 < c e → parts e * c e ≡ all

not_zero : (n : ℕ) → n ≢ 0 → 0 < n
not_zero zero h = absurd (h refl)
not_zero (suc n) h = omega arith

more_parts : (n : ℕ) (c : ℕ → ℕ) → HasMultiple n c → 0 < c n → HasMultiple (suc n) c
more_parts n c before some = record {
  all = before.all * c n;
  some = mul-pos before.some some;
  parts = parts;
  parts_some = λ e. ⊎_elim
      (λ same. subst (λ t. 0 < cond t before.all (before.parts e * c n)) (sym (eq-eqb n e same)) before.some)
      (λ other. subst (λ t. 0 < cond t before.all (before.parts e * c n)) (sym (ne_eqb n e other)) (mul-pos (before.parts_some e) some))
      (cases_eq n e);
  each = λ e l positive. ⊎_elim
      (λ same. subst (λ t. cond t before.all (before.parts e * c n) * c e ≡ before.all * c n) (sym (eq-eqb n e same)) (ap (λ x. before.all * c x) (sym same)))
      (λ other. subst (λ t. cond t before.all (before.parts e * c n) * c e ≡ before.all * c n) (sym (ne_eqb n e other))
      (turned (before.parts e) (c n) (c e) before.all (before.each e (omega (arith, l, other)) positive)))
      (cases_eq n e);
}
  where
    parts : ℕ → ℕ
    parts e = cond (eqb n e) before.all (before.parts e * c n)

    turned : (p x y a : ℕ) → p * y ≡ a → (p * x) * y ≡ a * x
    turned p x y a same = let h : (p * y) * x ≡ a * x = ap (λ t. t * x) same in omega (arith, h)

same_parts : (n : ℕ) (c : ℕ → ℕ) → HasMultiple n c → c n ≡ 0 → HasMultiple (suc n) c
same_parts n c before none = record {
  all = before.all;
  some = before.some;
  parts = before.parts;
  parts_some = before.parts_some;
  each = λ e l positive. before.each e (⊎_elim
      (λ same. absurd (let h : c e ≡ 0 = ap c (sym same) ∙ none in omega (arith, h, positive)))
      (λ other. omega (arith, l, other))
      (cases_eq n e)) positive;
}

-- all of them have such a number
pub multiple_of : (n : ℕ) (c : ℕ → ℕ) → HasMultiple n c
multiple_of zero c = record { all = 1; some = omega arith; parts = λ e. 1; parts_some = λ e. omega arith; each = λ e l. absurd (omega (arith, l)) }
multiple_of (suc n) c = ⊎_elim
    (λ none. same_parts n c (multiple_of n c) none)
    (λ some. more_parts n c (multiple_of n c) (not_zero (c n) some))
    (cases_eq (c n) 0)

-- a row whose numbers are taken as often as the parts of a multiple
abbrev pub taken : (ℕ → ℤ) → (ℕ → ℕ) → ℕ → ℤ
taken u parts k = u k *ℤ pos (parts k)

-- its product with lengths times capacities is as many times as large as that of the row with lengths
pub taken_lengths : (m : ℕ) (c : ℕ → ℕ) (has : HasMultiple m c) (u : ℕ → ℤ) (lengths : ℕ → ℕ) → ((k : ℕ) → k < m → c k ≡ 0 → lengths k ≡ 0)
    → dot m (taken u has.parts) (λ k. pos (lengths k * c k)) ≡ pos has.all *ℤ dot m u (λ k. pos (lengths k))
taken_lengths m c has u lengths none =
    sum-same m _ (λ k. pos has.all *ℤ (u k *ℤ pos (lengths k))) (λ k l. ⊎_elim
    (λ gone. at_none (u k) (has.parts k) (lengths k) (c k) (none k l gone))
    (λ some. at_some (u k) (has.parts k) (lengths k) (c k) (has.each k l (not_zero (c k) some)))
    (cases_eq (c k) 0))
    ∙ sum-times m (pos has.all) (λ k. u k *ℤ pos (lengths k))
  where
    shifted : (p l c a : ℕ) → p * c ≡ a → p * (l * c) ≡ l * a
    shifted p l c a same = let h : l * (p * c) ≡ l * a = ap (λ t. l * t) same in omega (arith, h)

    nothing : (c : ℕ) → 0 * c ≡ 0
    nothing c = omega arith

    at_none : (x : ℤ) (p l c : ℕ) → l ≡ 0 → (x *ℤ pos p) *ℤ pos (l * c) ≡ pos has.all *ℤ (x *ℤ pos l)
    at_none x p l c gone =
        let one : pos (l * c) ≡ pos 0 = ap (λ t. pos (t * c)) gone ∙ ap pos (nothing c) in
        let two : pos l ≡ pos 0 = ap pos gone in
        ap (λ t. (x *ℤ pos p) *ℤ t) one ∙ (*ℤ-zero (x *ℤ pos p) ∙ sym (ap (λ t. pos has.all *ℤ (x *ℤ t)) two ∙ (ap (λ t. pos has.all *ℤ t) (*ℤ-zero x) ∙ *ℤ-zero (pos has.all))))

    at_some : (x : ℤ) (p l c : ℕ) → p * c ≡ has.all → (x *ℤ pos p) *ℤ pos (l * c) ≡ pos has.all *ℤ (x *ℤ pos l)
    at_some x p l c same =
        regroup x (pos p) (pos (l * c))
        ∙ (ap (λ t. x *ℤ t) (pos-*ℤ-pos p (l * c) ∙ (ap pos (shifted p l c has.all same) ∙ sym (pos-*ℤ-pos l has.all)))
        ∙ (sym (regroup x (pos l) (pos has.all)) ∙ *ℤ_comm (x *ℤ pos l) (pos has.all)))

-- its product with the slack of row e is that of the row, as often as the part of e
pub taken_slack : (m e : ℕ) (parts : ℕ → ℕ) (u : ℕ → ℤ) → e < m → dot m (taken u parts) (unit_vector e) ≡ pos (parts e) *ℤ dot m u (unit_vector e)
taken_slack m e parts u l =
    dot-unit m e (taken u parts) (unit_vector e) l (λ k h. refl)
    ∙ (*ℤ_comm (u e) (pos (parts e)) ∙ ap (λ t. pos (parts e) *ℤ t) (sym (dot-unit m e u (unit_vector e) l (λ k h. refl))))

-- a product that is a row's denominator at its own place and 0 elsewhere, some times
pub unit_scaled : (i j : ℕ) (own other den : ℤ) → (i ≡ j → own ≡ other) → other *ℤ (den *ℤ unit_vector i j) ≡ (den *ℤ own) *ℤ unit_vector i j
unit_scaled i j own other den same = ⊎_elim
    (λ e. ap (λ t. t *ℤ (den *ℤ unit_vector i j)) (sym (same e)) ∙ (*ℤ_comm own (den *ℤ unit_vector i j) ∙ swap_last den (unit_vector i j) own))
    (λ ne. let none = unit-other i j ne in
    ap (λ t. other *ℤ (den *ℤ t)) none ∙ (ap (λ t. other *ℤ t) (*ℤ-zero den) ∙ (*ℤ-zero other ∙ sym (ap (λ t. (den *ℤ own) *ℤ t) none ∙ *ℤ-zero (den *ℤ own)))))
    (cases_eq i j)

-- where values that aren't negative fill the rows, a row of the inverse isn't worth less than 0
pub worth_nonneg : (m i : ℕ) (values y b : ℕ → ℤ) (basic : ℕ → ℕ → ℤ) (den scale : ℤ) → i < m → pos 0 <ℤ den → pos 0 <ℤ scale → pos 0 ≤ℤ values i
    → ((j : ℕ) → j < m → dot m y (basic j) ≡ den *ℤ unit_vector i j)
    → ((k : ℕ) → k < m → int_sum m (λ j. values j *ℤ basic j k) ≡ scale *ℤ b k)
    → pos 0 ≤ℤ dot m y b
worth_nonneg m i values y b basic den scale l above over high row fills =
    let same = equal_value m values (unit_vector i) y b basic den scale row fills in
    let one : int_sum m (λ j. values j *ℤ unit_vector i j) ≡ values i = sum-unit m i values l in
    let value : pos 0 ≤ℤ (den *ℤ values i) = times_nonneg den (values i) (weaken den above) high in
    le_cancel scale (pos 0) (dot m y b) over (subst (λ t. t ≤ℤ (scale *ℤ dot m y b)) (sym (*ℤ-zero scale)) (subst (λ t. pos 0 ≤ℤ t) (ap (λ t. den *ℤ t) (sym one) ∙ same) value))
