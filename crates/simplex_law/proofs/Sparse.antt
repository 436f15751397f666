-- the product with a column's entries alone is the product with the column
use Rattle.std.proofs.Common.{◌≡◌, ℕ, ◌<◌, List, [], ◌∷◌, sym, ap, ◌∙◌, arith, cond, eqb, ℤ, pos, ◌+ℤ◌, ◌*ℤ◌, eq-eqb, ne_eqb}
use Rattle.net_core.proofs.Library.{*ℤ-zero, ints, AllByRecursion}
use Rattle.simplex_law.{specs.Sums.dot, specs.Programs.entry_at, proofs.Arithmetic.distribute_left, proofs.Sums.{sum-plus, sum-same, sum-one, dot-none-column}}

-- the product of a row with entries
abbrev pub entry_dot : {E : Type 0} → (E → ℕ) → (E → ℤ) → (ℕ → ℤ) → List E → ℤ
entry_dot row value nums [] = pos 0
entry_dot row value nums (e ∷ es) = (nums (row e) *ℤ value e) +ℤ entry_dot row value nums es

one_entry : (m r : ℕ) (u : ℕ → ℤ) (x : ℤ) → r < m → dot m u (λ k. cond (eqb r k) x (pos 0)) ≡ u r *ℤ x
one_entry m r u x lt = sum-one m r _ (u r *ℤ x) lt
    (λ k l ne. ap (λ t. u k *ℤ cond t x (pos 0)) (ne_eqb r k (λ e. ne (sym e))) ∙ *ℤ-zero (u k))
    (ap (λ t. u r *ℤ cond t x (pos 0)) (eq-eqb r r Rattle.std.proofs.Common.refl))

pub sparse : {E : Type 0} (row : E → ℕ) (value : E → ℤ) (m : ℕ) (u : ℕ → ℤ) (es : List E) → AllByRecursion (λ e. row e < m) es → entry_dot row value u es ≡ dot m u (entry_at row value es)
sparse row value m u [] all = sym (dot-none-column m u (λ k. pos 0) (λ k l. Rattle.std.proofs.Common.refl))
sparse row value m u (e ∷ es) all =
    let each : dot m u (entry_at row value (e ∷ es)) ≡ dot m u (λ k. cond (eqb (row e) k) (value e) (pos 0)) +ℤ dot m u (entry_at row value es) =
    sum-same m _ (λ k. (u k *ℤ cond (eqb (row e) k) (value e) (pos 0)) +ℤ (u k *ℤ entry_at row value es k))
    (λ k l. distribute_left (cond (eqb (row e) k) (value e) (pos 0)) (entry_at row value es k) (u k))
    ∙ sum-plus m (λ k. u k *ℤ cond (eqb (row e) k) (value e) (pos 0)) (λ k. u k *ℤ entry_at row value es k) in
    omega (arith, ints, each, one_entry m (row e) u (value e) all.0, sparse row value m u es all.1)
