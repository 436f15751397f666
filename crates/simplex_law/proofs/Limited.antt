-- a column that gains is limited by a row
use Rattle.std.proofs.Common.{◌≡◌, ℕ, ◌<◌, sym, ◌∙◌, arith, subst, ℤ, pos, ◌*ℤ◌, ◌<ℤ◌, ◌≤ℤ◌}
use Rattle.net_core.proofs.Library.{*ℤ_comm, *ℤ-zero, ints, by_lt_z}
use Rattle.simplex_law.{specs.Sums.dot, specs.Programs.{ColumnOf, IsPacking}, specs.Bases.Gains, specs.inner.Tableaux.IsTableau, proofs.Arithmetic.{times_nonpositive, positive_cancel, le_cancel, weaken}, proofs.Sums.{sum-le, sum-none, dot-none-column}, proofs.Filling.fills}

-- a weight is positive
pub weight_positive : (w den all : ℤ) → pos 0 <ℤ den → pos 0 <ℤ all → w *ℤ den ≡ all → pos 0 <ℤ w
weight_positive w den all pd pa e = positive_cancel den w pd (subst (λ x. pos 0 <ℤ x) (sym e ∙ *ℤ_comm w den) pa)

-- products with the basis' rows that are nowhere positive belong to a column without entries, which gains nothing
pub limited : {N : Type 0} (m : ℕ) (bound : ℕ → ℤ) (is_column : ColumnOf N → Type 0) (basis : ℕ → ColumnOf N) (nums : ℕ → ℕ → ℤ) (den duals : ℕ → ℤ) (duals_den : ℤ) (c : ColumnOf N)
    → IsPacking m bound is_column → ((j : ℕ) → j < m → is_column (basis j)) → is_column c
    → IsTableau m bound basis nums den duals duals_den → Gains m duals duals_den c
    → ((i : ℕ) → i < m → dot m (nums i) c.entry ≤ℤ pos 0) → ⊥
limited m bound is_column basis nums den duals duals_den c packing columns is_c s gains none = by_lt_z (pos 0) c.gain
    (λ above. let k = packing.limited c is_c above in let z = no_entry k.0 k.1 in let p = k.2 in absurd (omega (arith, ints, z, p)))
    (λ low. let less : (duals_den *ℤ c.gain) ≤ℤ pos 0 = times_nonpositive duals_den c.gain (weaken duals_den s.above) low in
    let zero_price : dot m duals c.entry ≡ pos 0 = dot-none-column m duals c.entry no_entry in
    absurd (omega (arith, ints, less, zero_price, gains)))
  where
    w : ℕ → ℤ
    w = s.filling.0

    all : ℤ
    all = s.filling.1

    low_term : (j k : ℕ) → j < m → k < m → ((w j *ℤ dot m (nums j) c.entry) *ℤ (basis j).entry k) ≤ℤ pos 0
    low_term j k lj lk =
        let pw = weight_positive (w j) (den j) all (s.over j lj) (s.filling.2.positive) (s.filling.2.weights j lj) in
        let low = times_nonpositive (w j) (dot m (nums j) c.entry) (weaken (w j) pw) (none j lj) in
        subst (λ x. x ≤ℤ pos 0) (*ℤ_comm ((basis j).entry k) (w j *ℤ dot m (nums j) c.entry))
        (times_nonpositive ((basis j).entry k) (w j *ℤ dot m (nums j) c.entry) (packing.entries (basis j) (columns j lj) k lk).0 low)

    no_entry : (k : ℕ) → k < m → c.entry k ≡ pos 0
    no_entry k lk =
        let below = sum-le m (λ j. (w j *ℤ dot m (nums j) c.entry) *ℤ (basis j).entry k) (λ j. pos 0) (λ j lj. low_term j k lj lk) in
        let filled = fills m (λ j. (basis j).entry) nums den w c.entry all s.filling.2 k lk in
        let low : (all *ℤ c.entry k) ≤ℤ (all *ℤ pos 0) = omega (arith, ints, below, filled, sum-none m, *ℤ-zero all) in
        let le = le_cancel all (c.entry k) (pos 0) s.filling.2.positive low in
        let ge = (packing.entries c is_c k lk).0 in
        omega (arith, ints, le, ge)
