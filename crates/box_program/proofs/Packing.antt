-- a box's program is a packing program
use Rattle.std.proofs.Common.{◌≡◌, ◌≢◌, ℕ, ◌+◌, ◌<◌, ◌++◌, List, [], ◌∷◌, All, Some, length, length-append, slice_get, ⊎_elim, sym, ap, ◌∙◌, subst, arith, ℤ, pos, ◌<ℤ◌}
use Rattle.net_core.proofs.Library.{cases_eq, ints}
use Rattle.checked_fraction.specs.Terms.{IsNarrow, num}
use Rattle.simplex_law.{specs.Terms.{ColumnOf, IsPacking, IsProgramColumn, IsSlack, unit_vector}, proofs.Lemmas.{unit-other, unit-same}}
use Rattle.simplex_core.{specs.Terms.column_of, proofs.Starts.each_push}
use Rattle.box_program.{specs.declared.program.Rated.Rated, specs.inner.BoxPrograms.{AreBoxColumns, HasColumnMore, IsBoxBound, IsBoxColumn, IsListedColumn}, proofs.Entries.{are_entries, entry_fits, takes_some}}

pub columns_none : (rows : ℕ) → AreBoxColumns rows []
columns_none rows k r e = absurd (cc e)

-- one column more
pub column_more : (rows : ℕ) (columns new : List Rated) (r : Rated) → new ≡ columns ++ r ∷ [] → AreBoxColumns rows columns → IsBoxColumn rows (length columns) r → HasColumnMore rows columns new
column_more rows columns new r made are is = record {
  are = subst (AreBoxColumns rows) (sym made) (each_push (IsBoxColumn rows) columns r are is);
  count = omega (arith, ap length made, length-append columns (r ∷ []));
}

unit_fits : (i k : ℕ) → IsBoxBound (unit_vector i k)
unit_fits i k = ⊎_elim
    (λ eq. subst IsBoxBound (sym (ap (λ j. unit_vector j k) eq ∙ unit-same k)) (omega (arith, ints), omega (arith, ints)))
    (λ ne. subst IsBoxBound (sym (unit-other i k ne)) (omega (arith, ints), omega (arith, ints)))
    (cases_eq i k)

same_some : {X : Type 0} (x y : X) → Some x ≡ Some y → x ≡ y
same_some x y e = cc e

module _ (bounds : List ℤ) (columns : List Rated) (fit : All IsBoxBound bounds) (sound : AreBoxColumns (length bounds) columns) where
  abbrev Listed : ColumnOf ℕ → Type 0
  Listed = IsListedColumn columns

  of : (c : ColumnOf ℕ) (l : Listed c) → IsBoxColumn (length bounds) l.place l.rated
  of c l = sound l.place l.rated l.there

  listed_fits : (c : ColumnOf ℕ) (l : Listed c) (k : ℕ) → IsBoxBound (c.entry k)
  listed_fits c l k =
      let are = are_entries (length bounds) l.rated.column.entries (of c l).entries in
      subst (λ (d : ColumnOf ℕ). IsBoxBound (d.entry k)) (sym l.same) (entry_fits (length bounds) l.rated.column.entries k are.each are.once)

  listed_name : (c : ColumnOf ℕ) (l : Listed c) → c.name ≡ length bounds + l.place
  listed_name c l = ap (λ (d : ColumnOf ℕ). d.name) l.same ∙ (of c l).name

  abbrev AreSame : ColumnOf ℕ → ColumnOf ℕ → Type 0
  AreSame c d = (c.gain ≡ d.gain) × ((k : ℕ) → k < length bounds → c.entry k ≡ d.entry k)

  both_listed : (c d : ColumnOf ℕ) (l : Listed c) (m : Listed d) → c.name ≡ d.name → AreSame c d
  both_listed c d l m same =
      let place : l.place ≡ m.place = omega (arith, same, listed_name c l, listed_name d m) in
      let rated : l.rated ≡ m.rated = same_some l.rated m.rated (sym l.there ∙ (ap (λ i. slice_get columns i) place ∙ m.there)) in
      let is : c ≡ d = l.same ∙ (ap (λ (r : Rated). column_of r.column) rated ∙ sym m.same) in
      (ap (λ (e : ColumnOf ℕ). e.gain) is, λ k lt. ap (λ (e : ColumnOf ℕ). e.entry k) is)

  both_slacks : (c d : ColumnOf ℕ) (s : IsSlack (length bounds) (λ row. row) c) (t : IsSlack (length bounds) (λ row. row) d) → c.name ≡ d.name → AreSame c d
  both_slacks c d s t same =
      let row : s.row ≡ t.row = sym s.named ∙ (same ∙ t.named) in
      (s.gain ∙ sym t.gain, λ k lt. s.entry k lt ∙ (ap (λ i. unit_vector i k) row ∙ sym (t.entry k lt)))

  apart : (c d : ColumnOf ℕ) (l : Listed c) (s : IsSlack (length bounds) (λ row. row) d) → c.name ≢ d.name
  apart c d l s same = absurd (omega (arith, same, listed_name c l, s.named, s.inside))

  pub box_packing : IsPacking (length bounds) (num bounds) (IsProgramColumn (length bounds) (λ row. row) Listed)
  box_packing = record {
    bounds = λ k lt. fit k (pos 0) lt;
    gains = λ c h. ⊎_elim
        (λ (l : Listed c). subst (λ (d : ColumnOf ℕ). IsNarrow d.gain) (sym l.same) (of c l).gain)
        (λ (s : IsSlack (length bounds) (λ row. row) c). subst IsNarrow (sym s.gain) (omega (arith, ints)))
        h;
    entries = λ c h k lt. ⊎_elim
        (λ (l : Listed c). listed_fits c l k)
        (λ (s : IsSlack (length bounds) (λ row. row) c). subst IsBoxBound (sym (s.entry k lt)) (unit_fits s.row k))
        h;
    limited = λ c h more. ⊎_elim
        (λ (l : Listed c).
        let some = takes_some (length bounds) l.rated.column.entries (of c l).some (of c l).entries in
        (some.0, some.1, subst (λ (d : ColumnOf ℕ). pos 0 <ℤ d.entry some.0) (sym l.same) some.2))
        (λ (s : IsSlack (length bounds) (λ row. row) c). absurd (omega (arith, ints, more, s.gain)))
        h;
    named = λ c d h i same. ⊎_elim
        (λ (l : Listed c). ⊎_elim
        (λ (m : Listed d). both_listed c d l m same)
        (λ (t : IsSlack (length bounds) (λ row. row) d). absurd (apart c d l t same))
        i)
        (λ (s : IsSlack (length bounds) (λ row. row) c). ⊎_elim
        (λ (m : Listed d). absurd (apart d c m s (sym same)))
        (λ (t : IsSlack (length bounds) (λ row. row) d). both_slacks c d s t same)
        i)
        h;
  }
