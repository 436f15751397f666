-- columns that gain
use Rattle.std.proofs.Common.{◌≡◌, ℕ, ◌+◌, ◌≤◌, ◌⊎◌, List, Option, None, Some, length, slice_get, refl, ⊎_elim, sym, ◌∙◌, subst, arith}
use Rattle.net_core.proofs.Library.{cases_eq, slice_get_within}
use Rattle.checked_fraction.specs.declared.row.Row.{Row}
use Rattle.simplex_law.specs.Terms.{ColumnOf}
use Rattle.simplex_core.{specs.Terms.{GainsAt, IsGainingColumn, column_of}, specs.declared.columns.Column.Column}
use Rattle.box_program.{specs.declared.candidate.Candidate.Candidate, specs.declared.program.Rated.Rated, specs.inner.BoxPrograms.{AreBoxColumns, FindsColumn, GainsAtPlace, IsCandidateAt, IsListedColumn}, proofs.Entries.are_entries}

same_some : {X : Type 0} (x y : X) → Some x ≡ Some y → x ≡ y
same_some x y e = cc e

module _ (columns : List Rated) (duals : Row) where
  -- the one column at a place that gains
  pub gains_there : (k : ℕ) (r : Rated) → slice_get columns k ≡ Some r → GainsAtPlace columns duals k → GainsAt (length duals.nums) duals (column_of r.column)
  gains_there k r at gains = subst (λ (x : Rated). GainsAt (length duals.nums) duals (column_of x.column)) (same_some gains.rated r (sym gains.there ∙ at)) gains.gains

  -- one column more
  pub candidate_more : (k : ℕ) (best next new : Option Candidate) → FindsColumn columns duals k best → IsCandidateAt columns duals k next → (new ≡ best) ⊎ (new ≡ next)
      → (new ≡ None → (best ≡ None) × (next ≡ None)) → FindsColumn columns duals (k + 1) new
  candidate_more k best next None sofar here is none =
      let before : FindsColumn columns duals k None = subst (FindsColumn columns duals k) (none refl).0 sofar in
      let there : IsCandidateAt columns duals k None = subst (IsCandidateAt columns duals k) (none refl).1 here in
      λ j lt gains. ⊎_elim
      (λ eq. there (subst (GainsAtPlace columns duals) eq gains))
      (λ ne. before j (omega (arith, lt, ne)) gains)
      (cases_eq j k)
  candidate_more k best next (Some c) sofar here is none = ⊎_elim
      (λ e. let found = subst (FindsColumn columns duals k) (sym e) sofar in (omega (arith, found.0), found.1))
      (λ e.
      let found = subst (IsCandidateAt columns duals k) (sym e) here in
      (omega (arith, found.0), subst (GainsAtPlace columns duals) (sym found.0) found.1))
      is

  -- all columns were tried
  pub finds_all : (n : ℕ) (best : Option Candidate) → length columns ≤ n → FindsColumn columns duals n best → FindsColumn columns duals (length columns) best
  finds_all n None le none = λ k lt gains. none k (omega (arith, lt, le)) gains
  finds_all n (Some c) le found = (slice_get_within columns c.at found.1.rated found.1.there, found.1)

  -- where no column gains, no listed one does
  pub none_listed : FindsColumn columns duals (length columns) None → (c : ColumnOf ℕ) → IsListedColumn columns c → GainsAt (length duals.nums) duals c → ⊥
  none_listed none c listed gains =
      none listed.place (slice_get_within columns listed.place listed.rated listed.there)
      (record { rated = listed.rated; there = listed.there; gains = subst (GainsAt (length duals.nums) duals) listed.same gains })

  -- a copy of a column that gains
  pub gaining_column : AreBoxColumns (length duals.nums) columns → (k : ℕ) (r : Rated) (c : Column ℕ) → slice_get columns k ≡ Some r → c ≡ r.column → GainsAtPlace columns duals k
      → IsGainingColumn (length duals.nums) (IsListedColumn columns) duals c
  gaining_column sound k r c at is gains =
      let column = sound k r at in
      subst (IsGainingColumn (length duals.nums) (IsListedColumn columns) duals) (sym is) (record {
        listed = record { place = k; rated = r; there = at; same = refl };
        entries = are_entries (length duals.nums) r.column.entries column.entries;
        gain = column.gain;
        gains = gains_there k r at gains;
      })
