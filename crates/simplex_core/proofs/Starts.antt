-- the slack basis as the code makes it
use Rattle.std.proofs.Common.{◌≡◌, ℕ, zero, suc, ◌<◌, ◌≤◌, ◌^◌, ◌+◌, ◌++◌, List, [], ◌∷◌, length, length-append, Some, replicate, slice_get, slice_set, length-set, get_or-set_same, get_or-set_other, refl, sym, ap, subst, ◌∙◌, arith, ⊎_elim, ℤ, pos, ◌≤ℤ◌}
use Rattle.net_core.proofs.Library.{ints, cases_lt, cases_eq, get_or_from_slice_get}
use Rattle.checked_fraction.{specs.Terms.{num, IsNarrow}, specs.declared.row.Row.Row}
use Rattle.simplex_law.{specs.Terms.unit_vector, proofs.Lemmas.{unit-same, unit-other}}
use Rattle.simplex_core.{specs.Tables.{nums_of, den_of}, specs.inner.Shapes.{AtEach, IsUnit, IsStartBasis}, specs.declared.basis.Basis.Basis}

-- what fits each place still does with one item more
pub each_push : {X : Type 0} (P : ℕ → X → Type 0) (xs : List X) (x : X) → AtEach P xs → P (length xs) x → AtEach P (xs ++ x ∷ [])
each_push P [] x all last zero y e = let same : x ≡ y = cc in subst (λ z. P 0 z) same last
each_push P [] x all last (suc i) y e = absurd cc
each_push P (z ∷ zs) x all last zero y e = all zero y e
each_push P (z ∷ zs) x all last (suc i) y e = each_push (λ k. P (suc k)) zs x (λ k w h. all (suc k) w h) last i y e

pub each_at : {X : Type 0} (P : ℕ → X → Type 0) (xs : List X) (i : ℕ) → i < length xs → AtEach P xs → (x : X) × (slice_get xs i ≡ Some x) × P i x
each_at P [] i lt all = absurd (omega arith)
each_at P (x ∷ xs) zero lt all = (x, refl, all zero x refl)
each_at P (x ∷ xs) (suc i) lt all = each_at (λ k. P (suc k)) xs i (omega arith) (λ k w h. all (suc k) w h)

-- one number more that fits its place
pub number_push : (f : ℕ → ℤ) (xs : List ℤ) (i : ℕ) (x : ℤ) (new : List ℤ) → length xs ≡ i → AtEach (λ k b. b ≡ f k) xs → x ≡ f i → new ≡ xs ++ x ∷ []
    → (length new ≡ i + 1) × AtEach (λ k b. b ≡ f k) new
number_push f xs i x new count all is made = (
  omega (arith, ap length made, length-append xs (x ∷ []), count),
  subst (λ ys. AtEach (λ k b. b ≡ f k) ys) (sym made) (each_push (λ k b. b ≡ f k) xs x all (is ∙ ap f (sym count))),
)

pub zeros_num : (n k : ℕ) → num (replicate n (pos 0)) k ≡ pos 0
zeros_num zero zero = refl
zeros_num zero (suc k) = refl
zeros_num (suc n) zero = refl
zeros_num (suc n) (suc k) = zeros_num n k

pub zeros_length : (n : ℕ) → length (replicate n (pos 0)) ≡ n
zeros_length zero = refl
zeros_length (suc n) = omega (arith, zeros_length n)

pub num_past : (xs : List ℤ) (k : ℕ) → length xs ≤ k → num xs k ≡ pos 0
num_past [] zero le = refl
num_past [] (suc k) le = refl
num_past (x ∷ xs) zero le = absurd (omega arith)
num_past (x ∷ xs) (suc k) le = num_past xs k (omega arith)

pub unit_num : (m i k : ℕ) → i < m → num (slice_set (replicate m (pos 0)) i (pos 1)) k ≡ unit_vector i k
unit_num m i k lt = ⊎_elim
    (λ e. subst (λ j. num (slice_set (replicate m (pos 0)) i (pos 1)) j ≡ unit_vector i j) (sym e)
    (get_or-set_same (replicate m (pos 0)) i (pos 1) (pos 0) (omega (arith, zeros_length m)) ∙ sym (unit-same i)))
    (λ ne. get_or-set_other (replicate m (pos 0)) i k (pos 1) (pos 0) ne ∙ (zeros_num m k ∙ sym (unit-other i k (λ e. ne (sym e)))))
    (cases_eq k i)

-- the parts make the slack basis
pub start : {N : Type 0} (m : ℕ) (bound : ℕ → ℤ) (slack : ℕ → N) (b : Basis N) → m < 2 ^ 32
    → ((k : ℕ) → k < m → (pos 0 ≤ℤ bound k) × IsNarrow (bound k))
    → length b.names ≡ m → AtEach (λ i name. name ≡ slack i) b.names
    → length b.rows ≡ m → AtEach (IsUnit m) b.rows
    → length b.bounds ≡ m → AtEach (λ i x. x ≡ bound i) b.bounds
    → b.duals.nums ≡ replicate m (pos 0) → b.duals.den ≡ pos 1 → b.products ≡ replicate m (pos 0) → b.spare.nums ≡ replicate m (pos 0)
    → IsStartBasis m bound slack b
start m bound slack b short narrow count_names names count_rows rows count_bounds bounds duals den products spare =
    let row : (i : ℕ) → i < m → (r : Row) × (slice_get b.rows i ≡ Some r) × IsUnit m i r = λ i l. each_at (IsUnit m) b.rows i (omega (arith, count_rows, l)) rows in
    let at : (k : ℕ) → k < m → num b.bounds k ≡ bound k = λ k l.
    let x = each_at (λ i x. x ≡ bound i) b.bounds k (omega (arith, count_bounds, l)) bounds in
    get_or_from_slice_get b.bounds k x.0 (pos 0) x.1 ∙ x.2 in
    record {
      shaped = record {
        names = count_names;
        rows = count_rows;
        rectangle = λ i l. let r = row i (omega (arith, count_rows, l)) in
            ap (λ o. length (nums_of o)) r.1 ∙ (ap length r.2.0 ∙ (length-set (replicate m (pos 0)) i (pos 1) ∙ zeros_length m));
        duals = ap length duals ∙ zeros_length m;
        spare = ap length spare ∙ zeros_length m;
        products = ap length products ∙ zeros_length m;
        bounds = count_bounds;
        narrow = λ k. ⊎_elim
            (λ l. subst IsNarrow (sym (at k l)) (narrow k l).1)
            (λ ge. subst IsNarrow (sym (num_past b.bounds k (omega (arith, count_bounds, ge)))) (omega (arith, ints)))
            (cases_lt k m);
        short = short;
      };
      names = names;
      bounds = at;
      units = λ i k li lk. let r = row i li in ap (λ o. num (nums_of o) k) r.1 ∙ (ap (λ xs. num xs k) r.2.0 ∙ unit_num m i k li);
      ones = λ i l. let r = row i l in ap den_of r.1 ∙ r.2.1;
      zeros = λ k l. ap (λ xs. num xs k) duals ∙ zeros_num m k;
      one = den;
    }
