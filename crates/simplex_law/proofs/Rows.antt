-- rows combined with the row of a pivot, and rows in lowest terms
use Rattle.std.proofs.Common.{◌≡◌, ℕ, zero, suc, ◌<◌, sym, ap, ◌∙◌, arith, cond, ⊎_elim, subst, eq-eqb, ne_eqb, ℤ, pos, ◌+ℤ◌, ◌-ℤ◌, ◌*ℤ◌, ◌<ℤ◌}
use Rattle.net_core.proofs.Library.{cases_eq, *ℤ-zero, ints}
use Rattle.checked_fraction.{specs.Terms.{IsReduced, combined}, proofs.Once.times_reduced, proofs.Products.{regroup, cancelled}}
use Rattle.simplex_law.{specs.Sums.{dot, unit_vector, put}, specs.Bases.IsRow, proofs.Arithmetic.{distribute, distribute_left, distribute_minus, swap_last, combined_times}, proofs.Sums.{sum-same, dot-times}}

pub dot-combined : (m : ℕ) (u w v : ℕ → ℤ) (p q : ℤ) → dot m (combined u p w q) v ≡ (dot m u v *ℤ q) -ℤ (p *ℤ dot m w v)
dot-combined zero u w v p q = omega (arith, ints)
dot-combined (suc m) u w v p q =
    ap (λ s. s +ℤ (combined u p w q m *ℤ v m)) (dot-combined m u w v p q)
    ∙ omega (arith, ints, combined_times (u m) q p (w m) (v m), distribute (dot m u v) (u m *ℤ v m) q, distribute_left (dot m w v) (w m *ℤ v m) p)

nothing_taken : (d t q p : ℤ) → ((d *ℤ t) *ℤ q) -ℤ (p *ℤ pos 0) ≡ (d *ℤ q) *ℤ t
nothing_taken d t q p = omega (arith, ints, swap_last d t q)

rest_taken : (x d t q : ℤ) → (x *ℤ q) -ℤ ((x -ℤ (d *ℤ t)) *ℤ q) ≡ (d *ℤ q) *ℤ t
rest_taken x d t q = omega (arith, ints, swap_last d t q, distribute_minus x (d *ℤ t) q)

-- a combined row keeps its values at the columns where the pivot row is 0
kept_value : (m : ℕ) (u w v : ℕ → ℤ) (p q d t : ℤ) → dot m u v ≡ d *ℤ t → dot m w v ≡ pos 0 → dot m (combined u p w q) v ≡ (d *ℤ q) *ℤ t
kept_value m u w v p q d t e z =
    dot-combined m u w v p q ∙ (ap (λ s. (s *ℤ q) -ℤ (p *ℤ dot m w v)) e ∙ (ap (λ s. ((d *ℤ t) *ℤ q) -ℤ (p *ℤ s)) z ∙ nothing_taken d t q p))

new_value : (m : ℕ) (u w a : ℕ → ℤ) (p q d t : ℤ) → dot m w a ≡ q → p ≡ dot m u a -ℤ (d *ℤ t) → dot m (combined u p w q) a ≡ (d *ℤ q) *ℤ t
new_value m u w a p q d t e z =
    dot-combined m u w a p q ∙ (ap (λ s. (dot m u a *ℤ q) -ℤ (p *ℤ s)) e ∙ (ap (λ s. (dot m u a *ℤ q) -ℤ (s *ℤ q)) z ∙ rest_taken (dot m u a) d t q))

none_elsewhere : (m r j : ℕ) (basic : ℕ → ℕ → ℤ) (w : ℕ → ℤ) (e : ℤ) → IsRow m basic (unit_vector r) w e → j < m → (r ≡ j → ⊥) → dot m w (basic j) ≡ pos 0
none_elsewhere m r j basic w e row lt other = row j lt ∙ (ap (λ b. e *ℤ cond b (pos 1) (pos 0)) (ne_eqb r j other) ∙ *ℤ-zero e)

-- a combined row takes the target's values, and t at the column that enters
pub next_row : (m r : ℕ) (basic : ℕ → ℕ → ℤ) (target u w a : ℕ → ℤ) (d e p q t : ℤ)
    → IsRow m basic target u d → IsRow m basic (unit_vector r) w e → dot m w a ≡ q → p ≡ dot m u a -ℤ (d *ℤ t)
    → IsRow m (put basic r a) (put target r t) (combined u p w q) (d *ℤ q)
next_row m r basic target u w a d e p q t row pivot is_q is_p j lt = ⊎_elim
    (λ same. rw (eq-eqb r j same) (new_value m u w a p q d t is_q is_p))
    (λ other. rw (ne_eqb r j other) (kept_value m u w (basic j) p q d (target j) (row j lt) (none_elsewhere m r j basic w e pivot lt other)))
    (cases_eq r j)

-- the row of the pivot over the pivot
pub pivot_row : (m r : ℕ) (basic : ℕ → ℕ → ℤ) (w a : ℕ → ℤ) (e q : ℤ)
    → IsRow m basic (unit_vector r) w e → dot m w a ≡ q → IsRow m (put basic r a) (unit_vector r) w q
pivot_row m r basic w a e q pivot is_q j lt = ⊎_elim
    (λ same. rw (eq-eqb r j same) (is_q ∙ times_one q))
    (λ other. rw (ne_eqb r j other) (none_elsewhere m r j basic w e pivot lt other ∙ sym (*ℤ-zero q)))
    (cases_eq r j)
  where
    times_one : (q : ℤ) → q ≡ q *ℤ pos 1
    times_one q = omega (arith, ints)

-- raw over whole is g times nums over den
pub record IsMultiple (m : ℕ) (raw : ℕ → ℤ) (whole : ℤ) (nums : ℕ → ℤ) (den : ℤ) (g : ℤ) : Type 0 where
  pub positive : pos 0 <ℤ g
  pub of_den : whole ≡ g *ℤ den
  pub of_nums : (k : ℕ) → k < m → raw k ≡ g *ℤ nums k

pub multiple : (m : ℕ) (raw : ℕ → ℤ) (whole : ℤ) (nums : ℕ → ℤ) (den : ℤ) → pos 0 <ℤ whole → IsReduced m raw whole nums den → (g : ℤ) × IsMultiple m raw whole nums den g
multiple m raw whole nums den pw r =
    let t = times_reduced m raw whole nums den pw r in
    (pos t.0, record { positive = some t.0 (subst (λ x. pos 0 <ℤ x) t.1 pw); of_den = t.1; of_nums = t.2 })
  where
    some : (g : ℕ) → pos 0 <ℤ (pos g *ℤ den) → pos 0 <ℤ pos g
    some zero h = absurd (omega (arith, ints, h))
    some (suc g) h = omega (arith, ints)

-- a row in lowest terms takes the values of the row that it reduces
pub reduced_row : (m : ℕ) (basic : ℕ → ℕ → ℤ) (target raw nums : ℕ → ℤ) (whole den g : ℤ) → IsMultiple m raw whole nums den g → IsRow m basic target raw whole → IsRow m basic target nums den
reduced_row m basic target raw nums whole den g r row j lt =
    cancelled g (dot m nums (basic j)) (den *ℤ target j) r.positive
    (sym (dot-times m g nums (basic j))
    ∙ (sum-same m _ _ (λ k l. ap (λ s. s *ℤ basic j k) (sym (r.of_nums k l)))
    ∙ (row j lt ∙ (ap (λ s. s *ℤ target j) r.of_den ∙ regroup g den (target j)))))
