-- the inverse from the other side: the columns times the rows
use Rattle.std.proofs.Common.{◌≡◌, ℕ, ◌<◌, refl, sym, ap, ◌∙◌, arith, ⊎_elim, subst, cond, eqb, Bool, true, false, ℤ, pos, ◌+ℤ◌, ◌-ℤ◌, ◌*ℤ◌, ◌<ℤ◌, eq-eqb, ne_eqb}
use Rattle.net_core.proofs.Library.{*ℤ_comm, *ℤ-zero, zero-*ℤ, ints, cases_eq}
use Rattle.checked_fraction.{specs.Terms.combined, proofs.Products.{regroup, positive_product, cancelled}}
use Rattle.simplex_law.{specs.Sums.{int_sum, dot, unit_vector, put}, specs.inner.Tableaux.IsFilling, proofs.Arithmetic.{distribute_minus, minus_left, swap_last, moved_out}, proofs.Sums.{sum-same, sum-times, sum-minus, sum-swapped, sum-put, sum-unit}}

-- any right side is filled
pub fills : (m : ℕ) (basic nums : ℕ → ℕ → ℤ) (den w b : ℕ → ℤ) (all : ℤ) → IsFilling m basic nums den w all
    → (k : ℕ) → k < m → int_sum m (λ j. (w j *ℤ dot m (nums j) b) *ℤ basic j k) ≡ all *ℤ b k
fills m basic nums den w b all h k lt =
    sum-same m _ (λ j. int_sum m (λ l. b l *ℤ ((w j *ℤ nums j l) *ℤ basic j k)))
    (λ j lj. *ℤ_comm (w j *ℤ dot m (nums j) b) (basic j k)
    ∙ (ap (λ s. basic j k *ℤ s) (sym (sum-times m (w j) (λ l. nums j l *ℤ b l)))
    ∙ (sym (sum-times m (basic j k) (λ l. w j *ℤ (nums j l *ℤ b l)))
    ∙ sum-same m _ _ (λ l ll. each (w j) (nums j l) (b l) (basic j k)))))
    ∙ (sum-swapped m m (λ j l. b l *ℤ ((w j *ℤ nums j l) *ℤ basic j k))
    ∙ (sum-same m _ (λ l. (all *ℤ b l) *ℤ unit_vector k l)
    (λ l ll. sum-times m (b l) (λ j. (w j *ℤ nums j l) *ℤ basic j k) ∙ (ap (λ s. b l *ℤ s) (h.filled k l lt ll) ∙ (moved_out (b l) all (unit_vector k l) ∙ sym (regroup all (b l) (unit_vector k l)))))
    ∙ sum-unit m k (λ l. all *ℤ b l) lt))
  where
    each : (w n b c : ℤ) → c *ℤ (w *ℤ (n *ℤ b)) ≡ b *ℤ ((w *ℤ n) *ℤ c)
    each w n b c = ap (λ s. c *ℤ s) (sym (regroup w n b) ∙ *ℤ_comm (w *ℤ n) b) ∙ (moved_out c b (w *ℤ n) ∙ ap (λ s. b *ℤ s) (*ℤ_comm c (w *ℤ n)))

-- the rows after a turn, before they are reduced: products p with the column that enters, of which q is the pivot
abbrev pub next_nums : (ℕ → ℕ → ℤ) → (ℕ → ℤ) → ℕ → ℤ → ℕ → ℕ → ℤ
next_nums nums p r q j = cond (eqb r j) (nums r) (combined (nums j) (p j) (nums r) q)

abbrev pub next_den : (ℕ → ℤ) → ℕ → ℤ → ℕ → ℤ
next_den den r q j = cond (eqb r j) q (den j *ℤ q)

four : (w n q c : ℤ) → (w *ℤ (n *ℤ q)) *ℤ c ≡ q *ℤ ((w *ℤ n) *ℤ c)
four w n q c = ap (λ s. s *ℤ c) (sym (regroup w n q)) ∙ (swap_last (w *ℤ n) q c ∙ *ℤ_comm ((w *ℤ n) *ℤ c) q)

term : (w n q p x c : ℤ) → (w *ℤ ((n *ℤ q) -ℤ (p *ℤ x))) *ℤ c ≡ (q *ℤ ((w *ℤ n) *ℤ c)) -ℤ (x *ℤ ((w *ℤ p) *ℤ c))
term w n q p x c =
    ap (λ s. s *ℤ c) (minus_left (n *ℤ q) (p *ℤ x) w) ∙ (distribute_minus (w *ℤ (n *ℤ q)) (w *ℤ (p *ℤ x)) c ∙ omega (arith, ints, four w n q c, four w p x c))

no_term : (w n q p c : ℤ) → p ≡ q → (w *ℤ ((n *ℤ q) -ℤ (p *ℤ n))) *ℤ c ≡ pos 0
no_term w n q p c e =
    let zero_there : (n *ℤ q) -ℤ (p *ℤ n) ≡ pos 0 = ap (λ s. (n *ℤ q) -ℤ (s *ℤ n)) e ∙ omega (arith, ints) in
    ap (λ s. (w *ℤ s) *ℤ c) zero_there ∙ (ap (λ s. s *ℤ c) (*ℤ-zero w) ∙ zero-*ℤ c)

last_step : (s x f n all q a u : ℤ) → s ≡ (q *ℤ (all *ℤ u)) -ℤ (n *ℤ (all *ℤ a)) → x ≡ (all *ℤ n) *ℤ a → f ≡ pos 0 → (s +ℤ x) -ℤ f ≡ (all *ℤ q) *ℤ u
last_step s x f n all q a u e ex ef =
    let g : n *ℤ (all *ℤ a) ≡ (all *ℤ n) *ℤ a = moved_out n all a ∙ sym (regroup all n a) in
    let h : q *ℤ (all *ℤ u) ≡ (all *ℤ q) *ℤ u = moved_out q all u ∙ sym (regroup all q u) in
    omega (arith, ints, e, ex, ef, g, h)

-- after a turn the weight of the pivot's row is the whole, the other weights stay, and the whole is multiplied by the pivot
pub next_filling : (m r : ℕ) (basic nums : ℕ → ℕ → ℤ) (den w a : ℕ → ℤ) (all q : ℤ) → r < m → pos 0 <ℤ q → IsFilling m basic nums den w all → dot m (nums r) a ≡ q
    → IsFilling m (put basic r a) (next_nums nums (λ j. dot m (nums j) a) r q) (next_den den r q) (put w r all) (all *ℤ q)
next_filling m r basic nums den w a all q rm pq h is_q = record {
  positive = positive_product all q h.positive pq;
  weights = λ j lj. ⊎_elim
      (λ e. subst (λ t. cond t all (w j) *ℤ cond t q (den j *ℤ q) ≡ all *ℤ q) (sym (eq-eqb r j e)) refl)
      (λ ne. subst (λ t. cond t all (w j) *ℤ cond t q (den j *ℤ q) ≡ all *ℤ q) (sym (ne_eqb r j ne))
      (sym (regroup (w j) (den j) q) ∙ ap (λ s. s *ℤ q) (h.weights j lj)))
      (cases_eq r j);
  filled = λ k l lk ll.
      let whole : int_sum m (f k l) ≡ (q *ℤ (all *ℤ unit_vector k l)) -ℤ (nums r l *ℤ (all *ℤ a k)) =
      sum-same m (f k l) (λ j. (q *ℤ ((w j *ℤ nums j l) *ℤ basic j k)) -ℤ (nums r l *ℤ ((w j *ℤ p j) *ℤ basic j k))) (λ j lj. term (w j) (nums j l) q (p j) (nums r l) (basic j k))
      ∙ (sum-minus m (λ j. q *ℤ ((w j *ℤ nums j l) *ℤ basic j k)) (λ j. nums r l *ℤ ((w j *ℤ p j) *ℤ basic j k))
      ∙ (ap (λ s. s -ℤ int_sum m (λ j. nums r l *ℤ ((w j *ℤ p j) *ℤ basic j k))) (sum-times m q (λ j. (w j *ℤ nums j l) *ℤ basic j k) ∙ ap (λ s. q *ℤ s) (h.filled k l lk ll))
      ∙ ap (λ s. (q *ℤ (all *ℤ unit_vector k l)) -ℤ s) (sum-times m (nums r l) (λ j. (w j *ℤ p j) *ℤ basic j k) ∙ ap (λ s. nums r l *ℤ s) (fills m basic nums den w a all h k lk)))) in
      let none : f k l r ≡ pos 0 = no_term (w r) (nums r l) q (p r) (basic r k) is_q in
      let shape : int_sum m (λ j. (put w r all j *ℤ next_nums nums p r q j l) *ℤ put basic r a j k) ≡ int_sum m (put (f k l) r ((all *ℤ nums r l) *ℤ a k)) =
      sum-same m _ _ (λ j lj. by_place k l j (eqb r j) refl) in
      shape ∙ (sum-put m r (f k l) ((all *ℤ nums r l) *ℤ a k) rm ∙ last_step _ _ _ (nums r l) all q (a k) (unit_vector k l) whole refl none);
}
  where
    p : ℕ → ℤ
    p j = dot m (nums j) a

    f : ℕ → ℕ → ℕ → ℤ
    f k l j = (w j *ℤ combined (nums j) (p j) (nums r) q l) *ℤ basic j k

    by_place : (k l j : ℕ) (b : Bool) → eqb r j ≡ b → (put w r all j *ℤ next_nums nums (λ i. dot m (nums i) a) r q j l) *ℤ put basic r a j k ≡ put (λ i. (w i *ℤ combined (nums i) (dot m (nums i) a) (nums r) q l) *ℤ basic i k) r ((all *ℤ nums r l) *ℤ a k) j
    by_place k l j true e = rw e refl
    by_place k l j false e = rw e refl

-- weights that fill one basis fill each whose columns agree with its columns below m
pub same_filling : (m : ℕ) (basic others nums : ℕ → ℕ → ℤ) (den w : ℕ → ℤ) (all : ℤ) → ((j k : ℕ) → j < m → others j k ≡ basic j k)
    → IsFilling m basic nums den w all → IsFilling m others nums den w all
same_filling m basic others nums den w all e h = record {
  positive = h.positive;
  weights = h.weights;
  filled = λ k l lk ll. sum-same m _ _ (λ j lj. ap (λ s. (w j *ℤ nums j l) *ℤ s) (e j k lj)) ∙ h.filled k l lk ll;
}

-- values over a common denominator, each the fraction of its row times the bounds, fill each row
pub filled_over : (m : ℕ) (basic nums : ℕ → ℕ → ℤ) (den w b values : ℕ → ℤ) (all common : ℤ) → IsFilling m basic nums den w all
    → ((j : ℕ) → j < m → values j *ℤ den j ≡ common *ℤ dot m (nums j) b)
    → (k : ℕ) → k < m → int_sum m (λ j. values j *ℤ basic j k) ≡ common *ℤ b k
filled_over m basic nums den w b values all common h are k lk =
    cancelled all (int_sum m (λ j. values j *ℤ basic j k)) (common *ℤ b k) h.positive
    (sym (sum-times m all (λ j. values j *ℤ basic j k))
    ∙ (sum-same m _ (λ j. common *ℤ ((w j *ℤ dot m (nums j) b) *ℤ basic j k)) (λ j lj. each (w j) (den j) (values j) (dot m (nums j) b) (basic j k) (h.weights j lj) (are j lj))
    ∙ (sum-times m common (λ j. (w j *ℤ dot m (nums j) b) *ℤ basic j k)
    ∙ (ap (λ s. common *ℤ s) (fills m basic nums den w b all h k lk) ∙ moved_out common all (b k)))))
  where
    inner : (w d v : ℤ) → (w *ℤ d) *ℤ v ≡ w *ℤ (v *ℤ d)
    inner w d v = regroup w d v ∙ ap (λ s. w *ℤ s) (*ℤ_comm d v)

    each : (w d v x e : ℤ) → w *ℤ d ≡ all → v *ℤ d ≡ common *ℤ x → all *ℤ (v *ℤ e) ≡ common *ℤ ((w *ℤ x) *ℤ e)
    each w d v x e ew ev =
        sym (regroup all v e)
        ∙ (ap (λ s. (s *ℤ v) *ℤ e) (sym ew)
        ∙ (ap (λ s. s *ℤ e) (inner w d v ∙ (ap (λ s. w *ℤ s) ev ∙ moved_out w common x))
        ∙ regroup common (w *ℤ x) e))
