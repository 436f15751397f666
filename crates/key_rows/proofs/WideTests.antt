-- what is too wide of a key when it is decided which column leaves
use Rattle.std.proofs.Common.{◌≡◌, ℕ, length, Err, ◌+◌, ◌-◌, ◌<◌, ◌≤◌, ◌⊎◌, ◌∙◌, pos, refl, arith, ⊎_elim, ◌<ℤ◌}
use Rattle.net_core.specs.declared.columns.RouteColumn.{RouteColumn}
use Rattle.key_rows.{specs.KeyTests.{IsWideSpread, IsWideTest}, specs.Names.own_entry, specs.inner.Candidates.{IsKeyTest, IsKeyCandidate, IsPlacedCandidate, IsWideRowTest, wide_test_of}, specs.declared.key_row.WideKey.WideKey, specs.declared.key_row.WideKey.TheVariants.{Common as CommonOf, Row as RowOf}, specs.declared.keyed.Keyed.Keyed, specs.declared.ratio_test.WideTest.WideTest, specs.declared.ratio_test.WideTest.TheVariants.{Common, Product, Row}, specs.declared.order.Candidate.Candidate}

-- of a key's row
pub row_test : (b : Keyed) (name : RouteColumn) (d role : ℕ) (wide : WideTest) → d < length b.duals → role ≡ length b.rows + d → IsWideRowTest b d role wide → IsWideTest b name wide
row_test b name d role Common l at h = (d, l, h)
row_test b name d role (Product r) l at h = absurd h
row_test b name d role (Row r) l at h = (d, l, (h.0 ∙ at, h.1))

-- of its product
pub key_test : (b : Keyed) (name : RouteColumn) (d : ℕ) (wide : WideTest) → d < length b.duals → IsKeyTest b d (own_entry name d) (Err wide) → IsWideTest b name wide
key_test b name d Common l h = (d, l, h)
key_test b name d (Product r) l h = (d, l, h)
key_test b name d (Row r) l h = absurd h

-- of a key, or of the best so far, which is another
pub pair_test : (b : Keyed) (name : RouteColumn) (d n : ℕ) (x best : Candidate) (wide : WideTest) → d < length b.duals → x.role ≡ length b.rows + d → n ≡ length b.rows → n ≤ best.role → best.role < length b.rows + length b.duals
    → IsWideRowTest b d x.role wide ⊎ IsWideRowTest b (best.role - n) best.role wide → IsWideTest b name wide
pair_test b name d n x best wide l at is ge lt = ⊎_elim
    (λ one. row_test b name d x.role wide l at one)
    (λ other. row_test b name (best.role - n) best.role wide (omega (arith, is, ge, lt)) (omega (arith, is, ge)) other)

-- what is too wide of a key's row, as the ratio test names it
pub wide_row : (b : Keyed) (d role : ℕ) (wide : WideKey) → IsWideSpread b d wide → IsWideRowTest b d role (wide_test_of wide role)
wide_row b d role CommonOf h = h
wide_row b d role RowOf h = (refl, h)

-- the product of a candidate is positive
pub placed_positive : (b : Keyed) (name : RouteColumn) (x : Candidate) → IsPlacedCandidate b name x → pos 0 <ℤ x.product
placed_positive b name x placed = ⊎_elim (λ row. row.positive) (λ key. key.1.positive) placed.is

-- a candidate in the role of a key is one
pub placed_key : (b : Keyed) (name : RouteColumn) (x : Candidate) → IsPlacedCandidate b name x → length b.rows ≤ x.role
    → IsKeyCandidate b (x.role - length b.rows) (own_entry name (x.role - length b.rows)) x
placed_key b name x placed le = ⊎_elim (λ row. absurd (no_row row.inside)) (λ key. key.1) placed.is
  where
    no_row : x.role < length b.rows → ⊥
    no_row lt = omega (arith, lt, le)
