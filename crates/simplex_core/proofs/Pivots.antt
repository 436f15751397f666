-- rows combined one after another
use Rattle.std.proofs.Common.{◌≡◌, ◌≢◌, ℕ, ◌<◌, ◌+◌, List, length, Some, slice_get, slice_set, length-set, sym, ap, subst, ◌∙◌, arith, ⊎_elim, ℤ, ◌*ℤ◌}
use Rattle.net_core.proofs.Library.{cases_eq}
use Rattle.checked_fraction.{specs.Terms.{num, IsReduced, combined, IsTooWide}, specs.declared.row.Row.Row, specs.declared.wide.WideNumber.WideNumber}
use Rattle.simplex_core.{specs.Tables.{nums_of, den_of, IsRectangle}, specs.Turned.{IsCombinedRow, IsCombined, IsTooWideRow, IsTooWideAt, AreTurned, IsWideRow}, specs.inner.Pivots.{CombinesAt, AreCombined}, proofs.Lists.{get_same, get_other}}

-- a row but row r is written combined
pub combines_at : (m : ℕ) (old : List Row) (row new : Row) (products : List ℤ) (pivot : ℕ → ℤ) (q : ℤ) (r i : ℕ) → i < length old → i ≢ r → slice_get old i ≡ Some row → IsRectangle m old
    → length new.nums ≡ length row.nums → IsReduced (length row.nums) (combined (num row.nums) (num products i) pivot q) (row.den *ℤ q) (num new.nums) new.den
    → CombinesAt m old (slice_set old i new) products pivot q r i
combines_at m old row new products pivot q r i lt ne at square size reduced =
    let width : length row.nums ≡ m = subst (λ o. length (nums_of o) ≡ m) at (square i lt) in
    let here : slice_get (slice_set old i new) i ≡ Some new = get_same old i new lt in
    let whole : IsCombinedRow m (Some row) (Some new) (num products i) pivot q =
    subst (λ n. IsReduced n (combined (num row.nums) (num products i) pivot q) (row.den *ℤ q) (num new.nums) new.den) width reduced in
    record {
      count = length-set old i new;
      size = ap (λ o. length (nums_of o)) here ∙ (size ∙ ap (λ o. length (nums_of o)) (sym at));
      done = λ _. subst (λ o. IsCombinedRow m o (slice_get (slice_set old i new) i) (num products i) pivot q) (sym at)
          (subst (λ o. IsCombinedRow m (Some row) o (num products i) pivot q) (sym here) whole);
      kept = λ e. absurd (ne e);
      others = λ j other. get_other old i j new other;
    }

-- a row that gets too wide
pub too_wide_at : (m : ℕ) (old : List Row) (row : Row) (products : List ℤ) (pivot : ℕ → ℤ) (q : ℤ) (i : ℕ) (wide : WideNumber) → i < length old → slice_get old i ≡ Some row → IsRectangle m old
    → IsTooWide (length row.nums) (combined (num row.nums) (num products i) pivot q) (row.den *ℤ q) wide → IsTooWideAt m old products pivot q i
too_wide_at m old row products pivot q i wide lt at square h =
    let width : length row.nums ≡ m = subst (λ o. length (nums_of o) ≡ m) at (square i lt) in
    subst (λ o. IsTooWideRow m o (num products i) pivot q) (sym at)
    (wide, subst (λ n. IsTooWide n (combined (num row.nums) (num products i) pivot q) (row.den *ℤ q) wide) width h)

-- one row more
pub combined_next : (m : ℕ) (old now next : List Row) (products : List ℤ) (pivot : ℕ → ℤ) (q : ℤ) (r n : ℕ)
    → AreCombined m old now products pivot q r n → CombinesAt m now next products pivot q r n → n < length old → AreCombined m old next products pivot q r (n + 1)
combined_next m old now next products pivot q r n a c lt = record {
  count = c.count ∙ a.count;
  sizes = λ i l. ⊎_elim
      (λ e. subst (λ k. length (nums_of (slice_get next k)) ≡ length (nums_of (slice_get old k))) (sym e) (c.size ∙ a.sizes n lt))
      (λ ne. ap (λ o. length (nums_of o)) (c.others i ne) ∙ a.sizes i l)
      (cases_eq i n);
  done = λ i l other. ⊎_elim
      (λ e. subst (λ k. IsCombined m old next products pivot q k) (sym e)
      (subst (λ o. IsCombinedRow m o (slice_get next n) (num products n) pivot q) (a.rest n (omega arith)) (c.done (λ f. other (e ∙ f)))))
      (λ ne. subst (λ o. IsCombinedRow m (slice_get old i) o (num products i) pivot q) (sym (c.others i ne)) (a.done i (omega (arith, ne)) other))
      (cases_eq i n);
  rest = λ i l. c.others i (λ e. omega arith) ∙ a.rest i (omega arith);
  kept = ⊎_elim
      (λ e. subst (λ k. slice_get next k ≡ slice_get now k) (sym e) (c.kept (sym e)) ∙ a.kept)
      (λ ne. c.others r ne ∙ a.kept)
      (cases_eq r n);
}

-- the rows while another one is in the place of the pivot row
pub lent_rectangle : (old : List Row) (row spare : Row) (r : ℕ) → r < length old → slice_get old r ≡ Some row → IsRectangle (length old) old → length spare.nums ≡ length old → IsRectangle (length row.nums) (slice_set old r spare)
lent_rectangle old row spare r lt at square size i l =
    let width : length row.nums ≡ length old = subst (λ o. length (nums_of o) ≡ length old) at (square r lt) in
    ⊎_elim
    (λ e. subst (λ k. length (nums_of (slice_get (slice_set old r spare) k)) ≡ length row.nums) (sym e)
    (ap (λ o. length (nums_of o)) (get_same old r spare lt) ∙ (size ∙ sym width)))
    (λ ne. ap (λ o. length (nums_of o)) (get_other old r i spare ne) ∙ (square i (omega (arith, l, length-set old r spare)) ∙ sym width))
    (cases_eq i r)

-- the rows once the new pivot row is back in its place
pub turned_rows : (m r : ℕ) (old mid : List Row) (row spare next : Row) (products : List ℤ) → length old ≡ m → r < m → IsRectangle m old → slice_get old r ≡ Some row
    → AreCombined (length row.nums) (slice_set old r spare) mid products (num row.nums) (num products r) r (length (slice_set old r spare))
    → length next.nums ≡ length row.nums → IsReduced (length row.nums) (num row.nums) (num products r) (num next.nums) next.den
    → AreTurned m old (slice_set mid r next) products r
turned_rows m r old mid row spare next products count lt square at a size reduced =
    let width : length row.nums ≡ m = subst (λ o. length (nums_of o) ≡ m) at (square r (omega arith)) in
    let mids : length mid ≡ m = a.count ∙ (length-set old r spare ∙ count) in
    let here : slice_get (slice_set mid r next) r ≡ Some next = get_same mid r next (omega arith) in
    record {
      count = length-set mid r next ∙ (mids ∙ sym count);
      sizes = λ i l. ⊎_elim
          (λ e. subst (λ k. length (nums_of (slice_get (slice_set mid r next) k)) ≡ m) (sym e) (ap (λ o. length (nums_of o)) here ∙ (size ∙ width)))
          (λ ne. ap (λ o. length (nums_of o)) (get_other mid r i next ne)
          ∙ (a.sizes i (omega (arith, length-set old r spare)) ∙ (ap (λ o. length (nums_of o)) (get_other old r i spare ne) ∙ square i (omega arith))))
          (cases_eq i r);
      others = λ i l ne.
          subst (λ w. IsCombinedRow w (slice_get old i) (slice_get (slice_set mid r next) i) (num products i) (num (nums_of (slice_get old r))) (num products r)) width
          (subst (λ o. IsCombinedRow (length row.nums) (slice_get old i) (slice_get (slice_set mid r next) i) (num products i) (num (nums_of o)) (num products r)) (sym at)
          (subst (λ o. IsCombinedRow (length row.nums) o (slice_get (slice_set mid r next) i) (num products i) (num row.nums) (num products r)) (get_other old r i spare ne)
          (subst (λ o. IsCombinedRow (length row.nums) (slice_get (slice_set old r spare) i) o (num products i) (num row.nums) (num products r)) (sym (get_other mid r i next ne))
          (a.done i (omega (arith, length-set old r spare)) ne))));
      pivot =
          subst (λ w. IsReduced w (num (nums_of (slice_get old r))) (num products r) (num (nums_of (slice_get (slice_set mid r next) r))) (den_of (slice_get (slice_set mid r next) r))) width
          (subst (λ o. IsReduced (length row.nums) (num (nums_of o)) (num products r) (num (nums_of (slice_get (slice_set mid r next) r))) (den_of (slice_get (slice_set mid r next) r))) (sym at)
          (subst (λ o. IsReduced (length row.nums) (num row.nums) (num products r) (num (nums_of o)) (den_of o)) (sym here) reduced));
    }

pub wide_rows : (m r i : ℕ) (old : List Row) (row spare : Row) (products : List ℤ) → length old ≡ m → r < m → IsRectangle m old → slice_get old r ≡ Some row
    → i < length (slice_set old r spare) → i ≢ r → IsTooWideAt (length row.nums) (slice_set old r spare) products (num row.nums) (num products r) i → IsWideRow m old products r i
wide_rows m r i old row spare products count lt square at li ne wide =
    let width : length row.nums ≡ m = subst (λ o. length (nums_of o) ≡ m) at (square r (omega arith)) in (
      omega (arith, length-set old r spare, li, count),
      ne,
      subst (λ w. IsTooWideRow w (slice_get old i) (num products i) (num (nums_of (slice_get old r))) (num products r)) width
          (subst (λ o. IsTooWideRow (length row.nums) (slice_get old i) (num products i) (num (nums_of o)) (num products r)) (sym at)
          (subst (λ o. IsTooWideRow (length row.nums) o (num products i) (num row.nums) (num products r)) (get_other old r i spare ne) wide)),
    )

pub spare_size : (m r : ℕ) (old mid : List Row) (row spare : Row) (products : List ℤ) (w : ℕ) (pivot : ℕ → ℤ) (q : ℤ) → length old ≡ m → r < m → length spare.nums ≡ m → slice_get mid r ≡ Some row
    → AreCombined w (slice_set old r spare) mid products pivot q r (length (slice_set old r spare)) → length row.nums ≡ m
spare_size m r old mid row spare products w pivot q count lt size at a =
    ap (λ o. length (nums_of o)) (sym at) ∙ (a.sizes r (omega (arith, length-set old r spare)) ∙ (ap (λ o. length (nums_of o)) (get_same old r spare (omega arith)) ∙ size))
