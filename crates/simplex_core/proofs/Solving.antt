-- what holds of the basis at each turn
use Rattle.std.proofs.Common.{◌≡◌, ℕ, ◌<◌, ◌^◌, List, length, Some, slice_get, slice_set, length-set, cond, refl, sym, ap, subst, ◌∙◌, arith, ⊎_elim, unsigned_abs, ℤ, pos, ◌≤ℤ◌, eq-eqb, ne_eqb}
use Rattle.net_core.proofs.Library.{ints, cases_eq}
use Rattle.checked_fraction.{specs.Terms.{num, IsInLowestTerms}, specs.declared.row.Row.Row}
use Rattle.simplex_law.{specs.Terms.{dot, put, ColumnOf, IsProgramColumn, IsPacking, slack_basis, IsPick, AreNames, IsReached}, proofs.Lemmas.{left_above, AreNumberedDuals, left_falls, IsTableau, dot-same, dot-none, same_pick, started, start_reached, turn_reached, value_nonneg, turned, rises}}
use Rattle.simplex_core.{specs.Tables.{nums_of, den_of, nums_at, den_at, IsRectangle}, specs.inner.Shapes.{IsStartBasis, IsShaped}, specs.inner.Turns.{Picks, TurnsTo}, specs.declared.basis.Basis.Basis, proofs.Lists.{get_same, get_other}, proofs.Starts.each_at}

-- a basis of the program that gaining steps reach, with the rows of its inverse
pub record IsAt {N : Type 0} (m : ℕ) (bound : ℕ → ℤ) (slack : ℕ → N) (is_listed : ColumnOf N → Type 0) (b : Basis N) : Type 0 where
  pub basis : ℕ → ColumnOf N
  pub names : AreNames m basis b.names
  pub shaped : IsShaped m b
  pub bounds : (k : ℕ) → k < m → num b.bounds k ≡ bound k
  pub state : IsTableau m bound basis (nums_at b.rows) (den_at b.rows) (num b.duals.nums) b.duals.den
  pub reached : IsReached m bound (IsProgramColumn m slack is_listed) (slack_basis slack) basis
  pub value : unsigned_abs (dot m (num b.duals.nums) bound) < 2 ^ 126

-- the names after a turn
pub names_turn : {N : Type 0} (m : ℕ) (basis : ℕ → ColumnOf N) (names : List N) (c : ColumnOf N) (r : ℕ) → AreNames m basis names → r < m → AreNames m (put basis r c) (slice_set names r c.name)
names_turn m basis names c r are lt = record {
  count = length-set names r c.name ∙ are.count;
  each = λ j l. ⊎_elim
      (λ e. ap (λ k. slice_get (slice_set names r c.name) k) e ∙ (get_same names r c.name (omega (arith, are.count, lt)) ∙ sym (ap (λ t. Some (cond t c (basis j)).name) (eq-eqb r j (sym e)))))
      (λ ne. get_other names r j c.name ne ∙ (are.each j l ∙ sym (ap (λ t. Some (cond t c (basis j)).name) (ne_eqb r j (λ e. ne (sym e))))))
      (cases_eq j r);
}

-- each row is in lowest terms
pub lowest_at : (m : ℕ) (rows : List Row) (i : ℕ) → length rows ≡ m → IsRectangle m rows → i < m → IsInLowestTerms m (nums_at rows i) (den_at rows i)
lowest_at m rows i count square lt =
    let row = each_at (λ i r. IsInLowestTerms (length (nums_of (Some r))) (num r.nums) r.den) rows i (omega (arith, count, lt)) (λ i r e. r.lowest) in
    let width : length row.0.nums ≡ m = sym (ap (λ o. length (nums_of o)) row.1) ∙ square i (omega (arith, count, lt)) in
    subst (λ o. IsInLowestTerms m (num (nums_of o)) (den_of o)) (sym row.1) (subst (λ w. IsInLowestTerms w (num row.0.nums) row.0.den) width row.2)

module _ {N : Type 0} (m : ℕ) (bound : ℕ → ℤ) (slack : ℕ → N) (is_listed : ColumnOf N → Type 0) where
  pub at_start : (b : Basis N) → IsPacking m bound (IsProgramColumn m slack is_listed) → IsStartBasis m bound slack b → IsAt m bound slack is_listed b
  at_start b packing s =
      let state = started m bound slack (nums_at b.rows) (den_at b.rows) (num b.duals.nums) b.duals.den (λ k l. (packing.bounds k l).0) s.units s.ones s.zeros s.one in
      record {
        basis = slack_basis slack;
        names = record {
          count = s.shaped.names;
          each = λ j l. let name = each_at (λ i name. name ≡ slack i) b.names j (omega (arith, s.shaped.names, l)) s.names in name.1 ∙ ap Some name.2;
        };
        shaped = s.shaped;
        bounds = s.bounds;
        state = state;
        reached = start_reached m bound slack is_listed (nums_at b.rows) (den_at b.rows) (num b.duals.nums) b.duals.den state;
        value = subst (λ x. unsigned_abs x < 2 ^ 126) (sym (dot-none m (num b.duals.nums) bound s.zeros)) (omega (arith, ints));
      }

  pub pick_at : (b : Basis N) (c : ColumnOf N) (r : ℕ) → IsAt m bound slack is_listed b → Picks m b c r → IsPick m bound (nums_at b.rows) (num b.duals.nums) b.duals.den c r
  pick_at b c r a pick = same_pick m (num b.bounds) bound a.bounds (nums_at b.rows) (num b.duals.nums) b.duals.den c r pick

  pub state_turn : (b new : Basis N) (c : ColumnOf N) (r : ℕ) → (a : IsAt m bound slack is_listed b) → TurnsTo m b c r new
      → IsTableau m bound (put a.basis r c) (nums_at new.rows) (den_at new.rows) (num new.duals.nums) new.duals.den
  state_turn b new c r a t =
      turned m bound a.basis (nums_at b.rows) (nums_at new.rows) (den_at b.rows) (den_at new.rows) (num b.duals.nums) (num new.duals.nums) b.duals.den new.duals.den c r a.state (pick_at b c r a t.pick) t.turned

  pub bounds_turn : (b new : Basis N) (c : ColumnOf N) (r : ℕ) → IsAt m bound slack is_listed b → TurnsTo m b c r new → (k : ℕ) → k < m → num new.bounds k ≡ bound k
  bounds_turn b new c r a t k l = ap (λ xs. num xs k) t.bounds ∙ a.bounds k l

  pub at_turn : (b new : Basis N) (c : ColumnOf N) (r : ℕ) → IsProgramColumn m slack is_listed c → IsAt m bound slack is_listed b → TurnsTo m b c r new
      → unsigned_abs (dot m (num new.duals.nums) (num new.bounds)) < 2 ^ 126 → IsAt m bound slack is_listed new
  at_turn b new c r is_c a t low = record {
    basis = put a.basis r c;
    names = subst (λ names. AreNames m (put a.basis r c) names) (sym t.names) (names_turn m a.basis b.names c r a.names t.pick.inside);
    shaped = t.shaped;
    bounds = bounds_turn b new c r a t;
    state = state_turn b new c r a t;
    reached = turn_reached m bound (IsProgramColumn m slack is_listed) (slack_basis slack) a.basis (nums_at b.rows) (den_at b.rows) (num b.duals.nums) b.duals.den c r is_c a.state (pick_at b c r a t.pick) a.reached;
    value = subst (λ x. unsigned_abs x < 2 ^ 126) (dot-same m (num new.duals.nums) (num new.duals.nums) (num new.bounds) bound (λ k l. refl) (bounds_turn b new c r a t)) low;
  }

  numbered : (b : Basis N) → IsAt m bound slack is_listed b → AreNumberedDuals m bound (num b.duals.nums) b.duals.den
  numbered b a = record {
    positive = b.duals.positive;
    narrow_den = b.duals.narrow_den;
    narrow = λ k l. b.duals.narrow k;
    value = a.value;
  }

  -- a turn leaves less above the duals
  pub falls : (b new : Basis N) (c : ColumnOf N) (r : ℕ) → IsAt m bound slack is_listed b → IsAt m bound slack is_listed new → TurnsTo m b c r new
      → left_above m bound (num new.duals.nums) new.duals.den < left_above m bound (num b.duals.nums) b.duals.den
  falls b new c r a next t = left_falls m bound (num b.duals.nums) b.duals.den (num new.duals.nums) new.duals.den (numbered b a) (numbered new next)
      (rises m bound a.basis (nums_at b.rows) (nums_at new.rows) (den_at b.rows) (den_at new.rows) (num b.duals.nums) (num new.duals.nums) b.duals.den new.duals.den c r a.state (pick_at b c r a t.pick) t.turned)

  -- no value is negative
  pub values_at : (b : Basis N) → IsAt m bound slack is_listed b → (k : ℕ) → k < length b.rows → pos 0 ≤ℤ dot (length b.rows) (nums_at b.rows k) (num b.bounds)
  values_at b a k l =
      subst (λ n. pos 0 ≤ℤ dot n (nums_at b.rows k) (num b.bounds)) (sym a.shaped.rows)
      (subst (λ x. pos 0 ≤ℤ x) (sym (dot-same m (nums_at b.rows k) (nums_at b.rows k) (num b.bounds) bound (λ k l. refl) a.bounds))
      (value_nonneg m bound a.basis (nums_at b.rows) (den_at b.rows) (num b.duals.nums) b.duals.den k a.state (omega (arith, a.shaped.rows, l))))
