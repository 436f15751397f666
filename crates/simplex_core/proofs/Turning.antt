-- a turn, from the values that the code has to what it does to the basis
use Rattle.std.proofs.Common.{◌≡◌, ℕ, ◌<◌, List, [], ◌∷◌, cond, eqb, refl, sym, subst, arith, inl, inr, ⊎_elim, ℤ, pos, ◌+ℤ◌, ◌-ℤ◌, ◌*ℤ◌, ◌<ℤ◌}
use Rattle.net_core.{proofs.Library.ints, specs.declared.columns.WideKind.WideKind, specs.declared.columns.WideKind.TheVariants.{Number, Row as RowOf, Product, Sum, Common, Value, Length}}
use Rattle.checked_fraction.{specs.Terms.{num, combined, IsTooWide}, specs.declared.row.Row.Row}
use Rattle.simplex_law.{specs.Terms.{dot, unit_vector, ColumnOf, IsSlack, IsNoLater}, proofs.Lemmas.dot-unit}
use Rattle.simplex_core.{specs.Columns.{column_from, entry_of}, specs.Prices.GainsAt, specs.Tables.{nums_at, den_at}, specs.Turned.IsWideRow, specs.inner.Ratios.IsRowNoLater, specs.inner.Turns.{reduced_cost, Picks, TurnsTo, IsWideOther, GetsWide, Enters, Chooses, HasEntered, IsTurnOutcome}, specs.declared.basis.Basis.Basis, specs.declared.solver.Turn.Turn, specs.declared.solver.Turn.TheVariants.{Again, Best, Unbounded, Wide, NoMemory}}

-- a wide row, by the products that the basis holds
pub wide_other : {N : Type 0} (m : ℕ) (old : Basis N) (c : ColumnOf N) (name : N) (cost : ℤ) (r i : ℕ) → Chooses m old c name cost r
    → IsWideRow m old.rows old.products r i → IsWideOther m old c r i
wide_other m old c name cost r i ch wide =
    let here = ch.products i wide.0 in
    let there = ch.products r ch.picks.inside in (
      wide.0,
      wide.1,
      (
        wide.2.0,
        subst (λ q. IsTooWide m (combined (nums_at old.rows i) (dot m (nums_at old.rows i) c.entry) (nums_at old.rows r) q) (den_at old.rows i *ℤ q) wide.2.0) there
            (subst (λ p. IsTooWide m (combined (nums_at old.rows i) p (nums_at old.rows r) (num old.products r)) (den_at old.rows i *ℤ num old.products r) wide.2.0) here wide.2.1),
      ),
    )

-- the row that the ratio test finds is a pick
pub picks : {N : Type 0} (m : ℕ) (old : Basis N) (products : List ℤ) (c : ColumnOf N) (r : ℕ)
    → ((i : ℕ) → i < m → num products i ≡ dot m (nums_at old.rows i) c.entry) → reduced_cost m old.duals c <ℤ pos 0
    → r < m → pos 0 <ℤ num products r → ((k : ℕ) → k < m → pos 0 <ℤ num products k → IsRowNoLater m old.rows old.bounds products r k)
    → Picks m old c r
picks m old products c r dots gains lt positive first = record {
  inside = lt;
  positive = subst (λ x. pos 0 <ℤ x) (dots r lt) positive;
  gains = gains;
  ratio = λ i l ne more.
      subst (λ q. IsNoLater m (num old.bounds) (nums_at old.rows r) q (nums_at old.rows i) (dot m (nums_at old.rows i) c.entry)) (dots r lt)
      (subst (λ p. IsNoLater m (num old.bounds) (nums_at old.rows r) (num products r) (nums_at old.rows i) p) (dots i l)
      (first i l (subst (λ x. pos 0 <ℤ x) (sym (dots i l)) more)));
}

-- what a turn does doesn't depend on the products that the basis holds
module _ {N : Type 0} (m : ℕ) (old : Basis N) (products : List ℤ) (c : ColumnOf N) where
  turns_as_well : (r : ℕ) (new : Basis N) → TurnsTo m (record { names = old.names; rows = old.rows; duals = old.duals; bounds = old.bounds; products = products; spare = old.spare }) c r new → TurnsTo m old c r new
  turns_as_well r new t = record {
    pick = t.pick;
    turned = t.turned;
    names = t.names;
    bounds = t.bounds;
    shaped = t.shaped;
  }

  wide_as_well : (kind : WideKind N) (new : Basis N) → GetsWide m (record { names = old.names; rows = old.rows; duals = old.duals; bounds = old.bounds; products = products; spare = old.spare }) c kind new → GetsWide m old c kind new
  wide_as_well (RowOf i) new h = h
  wide_as_well (Product i name) new h = h
  wide_as_well (Sum i) new h = ⊎_elim (λ a. inl a) (λ b. inr (b.0, (b.1.0, turns_as_well b.1.0 new b.1.1), b.2)) h
  wide_as_well (Number name) new h = h
  wide_as_well Common new h = h
  wide_as_well Value new h = h
  wide_as_well (Length link) new h = h

  pub enters_as_well : (turn : Turn N) (new : Basis N) → Enters m (record { names = old.names; rows = old.rows; duals = old.duals; bounds = old.bounds; products = products; spare = old.spare }) c turn new → Enters m old c turn new
  enters_as_well Again new h = ((h.0.0, turns_as_well h.0.0 new h.0.1), h.1)
  enters_as_well (Wide kind) new h = wide_as_well kind new h
  enters_as_well Unbounded new h = h
  enters_as_well Best new h = h
  enters_as_well NoMemory new h = h

-- a column that has entered makes a turn
pub entered : {N : Type 0} (m : ℕ) (slack : ℕ → N) (is_listed : ColumnOf N → Type 0) (old : Basis N) (turn : Turn N) (new : Basis N)
    → HasEntered m slack is_listed old turn new → IsTurnOutcome m slack is_listed old turn new
entered m slack is_listed old Again new h = h
entered m slack is_listed old (Wide kind) new h = h
entered m slack is_listed old Unbounded new h = h
entered m slack is_listed old Best new h = absurd h.enters
entered m slack is_listed old NoMemory new h = absurd h.enters

-- the one entry of a slack
slack_entry : (row k : ℕ) → cond (eqb row k) (pos 1) (pos 0) +ℤ pos 0 ≡ unit_vector row k
slack_entry row k = plain (cond (eqb row k) (pos 1) (pos 0))
  where
    plain : (x : ℤ) → x +ℤ pos 0 ≡ x
    plain x = omega (arith, ints)

pub is_slack : {N : Type 0} (m : ℕ) (slack : ℕ → N) (name : N) (row : ℕ) → row < m → name ≡ slack row
    → IsSlack m slack (column_from name (pos 0) (record { row = row; value = pos 1 } ∷ []))
is_slack m slack name row lt named = record {
  row = row;
  inside = lt;
  named = named;
  gain = refl;
  entry = λ k l. slack_entry row k;
}

-- a slack gains where the row's dual is negative
pub slack_gains : {N : Type 0} (m : ℕ) (duals : Row) (name : N) (row : ℕ) → row < m → num duals.nums row <ℤ pos 0
    → reduced_cost m duals (column_from name (pos 0) (record { row = row; value = pos 1 } ∷ [])) <ℤ pos 0
slack_gains m duals name row lt negative =
    let is : dot m (num duals.nums) (entry_of (record { row = row; value = pos 1 } ∷ [])) ≡ num duals.nums row =
    dot-unit m row (num duals.nums) (entry_of (record { row = row; value = pos 1 } ∷ [])) lt (λ k l. slack_entry row k) in
    below (dot m (num duals.nums) (entry_of (record { row = row; value = pos 1 } ∷ []))) (num duals.nums row) duals.den is negative
  where
    below : (x y d : ℤ) → x ≡ y → y <ℤ pos 0 → (x -ℤ (d *ℤ pos 0)) <ℤ pos 0
    below x y d e h = omega (arith, ints, e, h)

-- what gains has a negative reduced cost
pub gains_price : {N : Type 0} (m : ℕ) (duals : Row) (c : ColumnOf N) → GainsAt m duals c → reduced_cost m duals c <ℤ pos 0
gains_price m duals c gains = below (dot m (num duals.nums) c.entry) (duals.den *ℤ c.gain) gains
  where
    below : (x y : ℤ) → x <ℤ y → (x -ℤ y) <ℤ pos 0
    below x y h = omega (arith, ints, h)
