-- the columns of cuts, and cuts that gain
use Rattle.std.proofs.Common.{◌≡◌, ◌≢◌, ℕ, ◌+◌, ◌<◌, ◌≤◌, ◌^◌, ◌++◌, List, [], ◌∷◌, All, Bool, true, false, cond, eqb, nat_lt, Option, None, Some, get_or, length, map, refl, slice_get, ◌⊎◌, ⊎_elim, append-nil, sym, ap, ◌∙◌, subst, arith, eq-eqb, le-ltb, lt-ltb, ne_eqb, ℤ, pos, ◌+ℤ◌, ◌-ℤ◌, ◌*ℤ◌, ◌<ℤ◌, ◌≤ℤ◌}
use Rattle.net_core.proofs.Library.{AllByRecursion, cases_eq, cases_lt, ints, get_or-map, length-map, All-get_or, get_or_from_slice_get, slice_get-get_or, slice_get_within}
use Rattle.checked_fraction.{specs.Terms.{num, IsNarrow}, specs.declared.row.Row.Row}
use Rattle.module_prices.specs.declared.cheapest.UnitPair.{UnitPair}
use Rattle.plan_terms.specs.Terms.{MasterColumn, Metric, Link, CutLine}
use Rattle.simplex_law.{specs.Terms.{dot, ColumnOf}, proofs.Lemmas.dot-same}
use Rattle.simplex_core.{specs.Terms.{entry_of, IsEntry, HaveApartRows, AreEntries, GainsAt, IsGainingColumn}, specs.declared.columns.Column.Column, specs.declared.columns.Entry.Entry}
use Rattle.master_law.specs.Terms.{cut_entry, cut_gain, IsCutColumn}
use Rattle.master_bound.{specs.declared.candidate.Candidate.Candidate, specs.declared.rating.Rating.Rating, specs.inner.Gaining.{CutGains, IsCandidate, IsCandidateAt, cost_below}, specs.Narrow.length_entry, specs.inner.Programs.{AreEntriesOf, IsColumnOfCut, entry_in}}

same : (x : ℤ) → x ≡ x
same x = omega (arith, ints)

-- a cut of the list has a length for each link
pub counted : (n : ℕ) (cuts : List CutLine) (k : ℕ) (cut : CutLine) → slice_get cuts k ≡ Some cut → All (λ cut. length cut.lengths ≡ n) cuts → length cut.lengths ≡ n
counted n cuts k cut at all = subst (λ (x : CutLine). length x.lengths ≡ n) (get_or_from_slice_get cuts k cut cut at) (All-get_or (λ (x : CutLine). length x.lengths ≡ n) cuts k cut (slice_get_within cuts k cut at) all)

-- the gain of a rating is that of its cut
pub rated : (links : List Link) (cuts : List CutLine) (ratings : List Rating) (k : ℕ) (r d : Rating) (cut : CutLine) → map (λ r. r.gain) ratings ≡ map (cut_gain links) cuts → slice_get cuts k ≡ Some cut → r ≡ get_or ratings k d → r.gain ≡ cut_gain links cut
rated links cuts ratings k r d cut gains at is =
    let inside = slice_get_within cuts k cut at in
    let count : length ratings ≡ length cuts = sym (length-map ratings (λ (x : Rating). x.gain)) ∙ (ap length gains ∙ length-map cuts (cut_gain links)) in
    ap (λ (x : Rating). x.gain) is ∙ (sym (get_or-map (λ (x : Rating). x.gain) ratings k d (pos 0) (omega (arith, inside, count)))
    ∙ (ap (λ xs. get_or xs k (pos 0)) gains ∙ (get_or-map (cut_gain links) cuts k cut (pos 0) inside ∙ ap (cut_gain links) (get_or_from_slice_get cuts k cut cut at))))

module _ (links : List Link) (pairs : List UnitPair) (duals : Row) where
  -- a surplus shows that the cut gains
  pub surplus_gains : (cut : CutLine) (gain : ℤ) (rest : ℕ) → length cut.lengths ≡ length links → gain ≡ cut_gain links cut → 0 < rest
      → pos rest ≡ duals.den *ℤ gain -ℤ cost_below duals pairs cut.lengths (length cut.lengths) → CutGains links pairs duals cut
  surplus_gains cut gain rest count is some left =
      let worth : duals.den *ℤ gain ≡ duals.den *ℤ cut_gain links cut = ap (λ x. duals.den *ℤ x) is in
      let cost : cost_below duals pairs cut.lengths (length cut.lengths) ≡ cost_below duals pairs cut.lengths (length links) = ap (cost_below duals pairs cut.lengths) count in
      omega (arith, ints, some, left, worth, cost)

  -- and where there is none it doesn't
  pub none_gains : (cut : CutLine) (gain : ℤ) → length cut.lengths ≡ length links → gain ≡ cut_gain links cut
      → (duals.den *ℤ gain) ≤ℤ cost_below duals pairs cut.lengths (length cut.lengths) → CutGains links pairs duals cut → ⊥
  none_gains cut gain count is low gains =
      let worth : duals.den *ℤ gain ≡ duals.den *ℤ cut_gain links cut = ap (λ x. duals.den *ℤ x) is in
      let cost : cost_below duals pairs cut.lengths (length cut.lengths) ≡ cost_below duals pairs cut.lengths (length links) = ap (cost_below duals pairs cut.lengths) count in
      omega (arith, ints, low, gains, worth, cost)

  -- one cut more
  pub candidate_more : (cuts : List CutLine) (k : ℕ) (best next new : Option Candidate) → IsCandidate links pairs cuts duals k best → IsCandidateAt links pairs cuts duals k next → (new ≡ best) ⊎ (new ≡ next)
      → (new ≡ None → (best ≡ None) × (next ≡ None)) → IsCandidate links pairs cuts duals (k + 1) new
  candidate_more cuts k best next None sofar here is none =
      let before : IsCandidate links pairs cuts duals k None = subst (IsCandidate links pairs cuts duals k) (none refl).0 sofar in
      let at : IsCandidateAt links pairs cuts duals k None = subst (IsCandidateAt links pairs cuts duals k) (none refl).1 here in
      λ j cut lt got. ⊎_elim
      (λ eq. at cut (subst (λ i. slice_get cuts i ≡ Some cut) eq got))
      (λ ne. before j cut (omega (arith, lt, ne)) got)
      (cases_eq j k)
  candidate_more cuts k best next (Some c) sofar here is none = ⊎_elim
      (λ e. subst (IsCandidate links pairs cuts duals k) (sym e) sofar)
      (λ e. subst (IsCandidateAt links pairs cuts duals k) (sym e) here)
      is

  -- a column that gains as no cut does
  pub no_column : (cuts : List CutLine) → IsCandidate links pairs cuts duals (length cuts) None → (c : ColumnOf MasterColumn) → IsCutColumn links pairs cuts c → GainsAt (length links) duals c → ⊥
  no_column cuts none c is gains =
      let k = is.listed.0 in
      let at : slice_get cuts k ≡ Some is.cut = slice_get-get_or cuts k is.cut is.listed.1 ∙ ap Some is.listed.2 in
      none k is.cut is.listed.1 at
      (subst (λ x. x <ℤ (duals.den *ℤ cut_gain links is.cut)) (dot-same (length links) (num duals.nums) (num duals.nums) c.entry (cut_entry pairs is.cut) (λ e l. same (num duals.nums e)) is.entry)
      (subst (λ x. dot (length links) (num duals.nums) c.entry <ℤ (duals.den *ℤ x)) is.gain gains))

  -- the column of a cut that gains
  pub gaining_column : (cuts : List CutLine) (k : ℕ) (cut : CutLine) (c : Column MasterColumn) → slice_get cuts k ≡ Some cut → length cut.lengths ≡ length links → IsColumnOfCut links pairs cut c → CutGains links pairs duals cut
      → IsGainingColumn (length links) (IsCutColumn links pairs cuts) duals c
  gaining_column cuts k cut c at count is gains =
      let entry : (e : ℕ) → e < length links → entry_of c.entries e ≡ cut_entry pairs cut e = λ e l. is.entries.each e ∙ inside e (length cut.lengths) (pos (length_entry pairs cut.lengths e)) (omega (arith, l, count)) in
      record {
        listed = record { cut = cut; listed = (k, slice_get_within cuts k cut at, get_or_from_slice_get cuts k cut cut at); named = is.named; gain = is.gain; entry = entry };
        entries = subst (λ n. AreEntries n c.entries) count is.entries.are;
        gain = is.narrow;
        gains = subst (λ x. dot (length links) (num duals.nums) (entry_of c.entries) <ℤ (duals.den *ℤ x)) (sym is.gain)
            (subst (λ x. x <ℤ (duals.den *ℤ cut_gain links cut)) (sym (dot-same (length links) (num duals.nums) (num duals.nums) (entry_of c.entries) (cut_entry pairs cut) (λ e l. same (num duals.nums e)) entry)) gains);
      }
    where
      inside : (e n : ℕ) (x : ℤ) → e < n → cond (nat_lt e n) x (pos 0) ≡ x
      inside e n x l = ap (λ t. cond t x (pos 0)) (lt-ltb e n l)

-- the column of a cut, from its parts
pub column_of_cut : (links : List Link) (pairs : List UnitPair) (cut other : CutLine) (lengths : List ℕ) (gain own : ℤ) (entries : List Entry) → cut ≡ other → lengths ≡ cut.lengths → gain ≡ own → own ≡ cut_gain links cut → IsNarrow own
    → AreEntriesOf pairs cut.lengths (length cut.lengths) entries → IsColumnOfCut links pairs other (record { name = Metric cut.state lengths; gain = gain; entries = entries })
column_of_cut links pairs cut other lengths gain own entries one copied back is low are =
    subst (λ x. IsColumnOfCut links pairs x (record { name = Metric cut.state lengths; gain = gain; entries = entries })) one
    (record { named = ap (Metric cut.state) copied; gain = back ∙ is; narrow = subst IsNarrow (sym back) low; entries = are })

-- an entry more
entry_push : (es : List Entry) (row value k : ℕ) → entry_of (es ++ record { row = row; value = pos value } ∷ []) k ≡ entry_of es k +ℤ cond (eqb row k) (pos value) (pos 0)
entry_push [] row value k = zeros (cond (eqb row k) (pos value) (pos 0))
  where
    zeros : (x : ℤ) → x +ℤ pos 0 ≡ pos 0 +ℤ x
    zeros x = omega (arith, ints)
entry_push (e ∷ es) row value k = ap (λ x. cond (eqb e.row k) e.value (pos 0) +ℤ x) (entry_push es row value k) ∙ order (cond (eqb e.row k) e.value (pos 0)) (entry_of es k) (cond (eqb row k) (pos value) (pos 0))
  where
    order : (a b c : ℤ) → a +ℤ (b +ℤ c) ≡ (a +ℤ b) +ℤ c
    order a b c = omega (arith, ints)

each_push : (P : Entry → Type 0) (es : List Entry) (e : Entry) → AllByRecursion P es → P e → AllByRecursion P (es ++ e ∷ [])
each_push P [] e all one = (one, tt)
each_push P (x ∷ es) e all one = (all.0, each_push P es e all.1 one)

below_more : (n : ℕ) (es : List Entry) → AllByRecursion (λ f. f.row < n) es → AllByRecursion (λ f. f.row < n + 1) es
below_more n [] all = tt
below_more n (e ∷ es) all = (omega (arith, all.0), below_more n es all.1)

apart_push : (n : ℕ) (es : List Entry) (e : Entry) → AllByRecursion (λ f. f.row < n) es → e.row ≡ n → HaveApartRows es → HaveApartRows (es ++ e ∷ [])
apart_push n [] e below at apart = (tt, tt)
apart_push n (x ∷ es) e below at apart = (each_push (λ f. x.row ≢ f.row) es e apart.0 (λ eq. omega (arith, eq, at, below.0)), apart_push n es e below.1 at apart.1)

module _ (pairs : List UnitPair) (lengths : List ℕ) where
  abbrev value : ℕ → ℤ
  value k = pos (length_entry pairs lengths k)

  abbrev entry : ℕ → Entry
  entry n = record { row = n; value = pos (length_entry pairs lengths n) }

  below : (k m : ℕ) (x : ℤ) → k < m → cond (nat_lt k m) x (pos 0) ≡ x
  below k m x l = ap (λ t. cond t x (pos 0)) (lt-ltb k m l)

  past : (k m : ℕ) (x : ℤ) → m ≤ k → cond (nat_lt k m) x (pos 0) ≡ pos 0
  past k m x l = ap (λ t. cond t x (pos 0)) (le-ltb k m l)

  here : (n k : ℕ) → cond (nat_lt k n) (value k) (pos 0) +ℤ cond (eqb n k) (value n) (pos 0) ≡ cond (nat_lt k (n + 1)) (value k) (pos 0)
  here n k = ⊎_elim
      (λ eq. ap (λ x. cond (nat_lt k n) (value k) (pos 0) +ℤ x) (ap (λ t. cond t (value n) (pos 0)) (eq-eqb n k eq))
      ∙ (ap (λ x. x +ℤ value n) (past k n (value k) (omega (arith, eq))) ∙ (zero_plus (value n) ∙ (ap value eq ∙ sym (below k (n + 1) (value k) (omega (arith, eq)))))))
      (λ ne. ap (λ x. cond (nat_lt k n) (value k) (pos 0) +ℤ x) (ap (λ t. cond t (value n) (pos 0)) (ne_eqb n k ne))
      ∙ (plus_zero (cond (nat_lt k n) (value k) (pos 0)) ∙ ⊎_elim
      (λ l. below k n (value k) l ∙ sym (below k (n + 1) (value k) (omega (arith, l))))
      (λ g. past k n (value k) g ∙ sym (past k (n + 1) (value k) (omega (arith, g, ne))))
      (cases_lt k n)))
      (cases_eq n k)
    where
      zero_plus : (x : ℤ) → pos 0 +ℤ x ≡ x
      zero_plus x = omega (arith, ints)

      plus_zero : (x : ℤ) → x +ℤ pos 0 ≡ x
      plus_zero x = omega (arith, ints)

  some_more : (n : ℕ) (es new : List Entry) → n < length lengths → length_entry pairs lengths n < 2 ^ 62 → new ≡ es ++ entry_in n (length_entry pairs lengths n) → 0 < length_entry pairs lengths n
      → AreEntriesOf pairs lengths n es → AreEntriesOf pairs lengths (n + 1) new
  some_more n es new lt low is above sofar =
      let more : new ≡ es ++ entry n ∷ [] = is ∙ ap (λ t. es ++ cond t (entry n ∷ []) []) (lt-ltb 0 (length_entry pairs lengths n) above) in
      subst (AreEntriesOf pairs lengths (n + 1)) (sym more) (record {
        below = each_push (λ f. f.row < n + 1) es (entry n) (below_more n es sofar.below) (omega arith);
        are = record {
          each = each_push (IsEntry (length lengths)) es (entry n) sofar.are.each (record { inside = lt; positive = omega (arith, ints); narrow = low });
          once = apart_push n es (entry n) sofar.below refl sofar.are.once;
        };
        each = λ k. entry_push es n (length_entry pairs lengths n) k ∙ (ap (λ x. x +ℤ cond (eqb n k) (value n) (pos 0)) (sofar.each k) ∙ here n k);
      })

  none_more : (n : ℕ) (es new : List Entry) → new ≡ es ++ entry_in n (length_entry pairs lengths n) → length_entry pairs lengths n ≤ 0 → AreEntriesOf pairs lengths n es → AreEntriesOf pairs lengths (n + 1) new
  none_more n es new is le sofar =
      let zero_is : value n ≡ pos 0 = ap pos (only (length_entry pairs lengths n) le) in
      let more : new ≡ es = is ∙ (ap (λ t. es ++ cond t (entry n ∷ []) []) (le-ltb 0 (length_entry pairs lengths n) le) ∙ append-nil es) in
      subst (AreEntriesOf pairs lengths (n + 1)) (sym more) (record {
        below = below_more n es sofar.below;
        are = sofar.are;
        each = λ k. sofar.each k ∙ (plus_zero (cond (nat_lt k n) (value k) (pos 0)) (cond (eqb n k) (value n) (pos 0)) (cond_zero (eqb n k) (value n) zero_is) ∙ here n k);
      })
    where
      only : (x : ℕ) → x ≤ 0 → x ≡ 0
      only x h = omega (arith, h)

      cond_zero : (t : Bool) (x : ℤ) → x ≡ pos 0 → cond t x (pos 0) ≡ pos 0
      cond_zero true x h = h
      cond_zero false x h = refl

      plus_zero : (x y : ℤ) → y ≡ pos 0 → x ≡ x +ℤ y
      plus_zero x y h = omega (arith, ints, h)

  -- the entry of one row more
  pub entries_more : (n : ℕ) (es new : List Entry) → n < length lengths → length_entry pairs lengths n < 2 ^ 62 → new ≡ es ++ entry_in n (length_entry pairs lengths n) → AreEntriesOf pairs lengths n es → AreEntriesOf pairs lengths (n + 1) new
  entries_more n es new lt low is sofar = ⊎_elim
      (λ above. some_more n es new lt low is above sofar)
      (λ le. none_more n es new is le sofar)
      (cases_lt 0 (length_entry pairs lengths n))
