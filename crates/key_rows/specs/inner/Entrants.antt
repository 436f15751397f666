-- a column that enters a basis with keys, and what its ratio test rests on
use Rattle.std.specs.Prelude.{ℕ, length, pos, ◌≢◌, ◌<◌, ◌≤ℤ◌, ◌^◌, unsigned_abs}
use Rattle.checked_fraction.specs.Terms.{num}
use Rattle.net_core.specs.declared.columns.RouteColumn.{RouteColumn}
use Rattle.key_rows.{specs.Bases.IsShapedBasis, specs.FirstRoles.LeaveSomething, specs.KeyTests.HaveColumnProducts, specs.Names.{own_entry, IsNameWithin, IsShortPath}, specs.inner.Candidates.{IsKeyCandidate, IsPlacedCandidate}, specs.declared.entrant.Entrant.Entrant, specs.declared.keyed.Keyed.Keyed, specs.declared.order.Candidate.Candidate}

-- it runs over links that there are, and so does the key; the basis holds its products
pub record IsEntrant (e : Entrant) : Type 0 where
  pub shaped : IsShapedBasis (length e.keyed.now.rows) (length e.keyed.now.duals) e.keyed.now
  pub within : IsNameWithin (length e.keyed.now.rows) e.name.now
  pub short : IsShortPath (length e.keyed.now.rows) e.key.now
  pub products : HaveColumnProducts e.keyed.now e.name.now e.key.now

-- bounds that aren't negative, products below 2 ^ 76, and rows that leave something of each demand's bound
pub record HaveTestNumbers (b : Keyed) : Type 0 where
  pub bounds : (r : ℕ) → r < length b.bounds → pos 0 ≤ℤ num b.bounds r
  pub low : (i : ℕ) → i < length b.rows → unsigned_abs (num b.products i) < 2 ^ 76
  pub left : LeaveSomething b

-- a key that may leave, that of demand d, and the best so far, which is another
pub record AreRivals (b : Keyed) (name : RouteColumn) (d : ℕ) (x best : Candidate) : Type 0 where
  pub demand : d < length b.duals
  pub candidate : IsKeyCandidate b d (own_entry name d) x
  pub placed : IsPlacedCandidate b name best
  pub apart : x.role ≢ best.role
