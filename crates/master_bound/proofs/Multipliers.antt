-- the multipliers of a basis that is given by its names and amounts
use Rattle.std.proofs.Common.{◌≡◌, ◌≢◌, ℕ, suc, ◌+◌, ◌/◌, ◌<◌, ◌++◌, List, [], ◌∷◌, Contains, Some, get_or, length, length-append, map, refl, slice_get, ⊎_elim, sym, ap, ◌∙◌, subst, arith}
use Rattle.net_core.proofs.Library.{cases_eq, map-append, All-get_or, All-push, All-weaker, Contains-append_left, Contains-push, all_pairs_push}
use Rattle.plan_terms.specs.Terms.{MasterColumn, Metric, CutLine}
use Rattle.simplex_law.specs.Terms.{ColumnOf, AreNames}
use Rattle.master_law.{specs.Terms.AreLinesOf, proofs.Lines.{lines_pass, lines_push}}
use Rattle.master_bound.{specs.Answers.{cut_at, lines_of}, specs.declared.answer.Multiplier.Multiplier, specs.inner.Lines.{AreBasisMultipliers, HaveOneName, IsMultiplierOf, IsPlaceOf, PushesMultiplier}}

next : (n : ℕ) → suc n ≡ n + 1
next n = omega arith

module _ (cuts : List CutLine) (basis : List MasterColumn) (amounts : List ℕ) (common : ℕ) where
  later : (n : ℕ) (m : Multiplier) → IsMultiplierOf cuts basis amounts common n m → IsMultiplierOf cuts basis amounts common (n + 1) m
  later n m is = record { column = is.column; before = omega (arith, is.before); name = is.name; at = is.at; place = is.place; positive = is.positive; num = is.num }

  name_at : (columns : ℕ → ColumnOf MasterColumn) (n : ℕ) (name : MasterColumn) → n < length basis → AreNames (length basis) columns basis → slice_get basis n ≡ Some name → (columns n).name ≡ name
  name_at columns n name lt named at = cc (named.each n lt, at)

  -- a column without multiplier
  passed : (n : ℕ) (ms : List Multiplier) → get_or amounts n 0 / common ≡ 0 → AreBasisMultipliers cuts basis amounts common n ms → AreBasisMultipliers cuts basis amounts common (n + 1) ms
  passed n ms none sofar = record {
    few = omega (arith, sofar.few);
    each = All-weaker (IsMultiplierOf cuts basis amounts common n) (IsMultiplierOf cuts basis amounts common (n + 1)) (later n) ms sofar.each;
    different = sofar.different;
    whole = λ j lt some. ⊎_elim
        (λ same. absurd (omega (arith, some, ap (λ i. get_or amounts i 0 / common) same, none)))
        (λ other. sofar.whole j (omega (arith, lt, other)) some)
        (cases_eq j n);
    sums = λ links columns named gains. subst (λ k. AreLinesOf links k columns (λ j. get_or amounts j 0 / common) (lines_of cuts ms)) (next n)
        (lines_pass links columns (λ j. get_or amounts j 0 / common) n (lines_of cuts ms) none (sofar.sums links columns named gains));
  }

  module _ (n : ℕ) (name : MasterColumn) (ms : List Multiplier) (lt : n < length basis) (at : slice_get basis n ≡ Some name) (place : ℕ) (stands : IsPlaceOf cuts name place) (some : 0 < get_or amounts n 0 / common)
      (sofar : AreBasisMultipliers cuts basis amounts common n ms) where
    new : Multiplier
    new = record { cut = place; num = get_or amounts n 0 / common }

    own : IsMultiplierOf cuts basis amounts common (n + 1) new
    unfolding new
    own = record { column = n; before = omega arith; name = name; at = at; place = stands; positive = some; num = refl }

    -- the multiplier of a column before it is that of another cut
    apart : (HaveOneName basis → ⊥) → (k : ℕ) (d : Multiplier) → k < length ms → (get_or ms k d).cut ≢ place
    apart none k d inside same =
        let before = All-get_or (IsMultiplierOf cuts basis amounts common n) ms k d inside sofar.each in
        let names : before.name ≡ name = before.place.named ∙ (ap (λ i. Metric (cut_at cuts i).state (cut_at cuts i).lengths) same ∙ sym stands.named) in
        none (record { first = before.column; second = n; before = before.before; name = name; at_first = before.at ∙ ap Some names; at_second = at })

    more : List Multiplier
    more = ms ++ new ∷ []

    nums_more : map (λ m. m.num) more ≡ map (λ m. m.num) ms ++ (get_or amounts n 0 / common) ∷ []
    unfolding more new
    nums_more = map-append (λ (m : Multiplier). m.num) ms (new ∷ [])

    lines_more : lines_of cuts more ≡ lines_of cuts ms ++ record { cut = cut_at cuts place; num = get_or amounts n 0 / common } ∷ []
    unfolding more new
    lines_more = map-append (λ (m : Multiplier). record { cut = cut_at cuts m.cut; num = m.num }) ms (new ∷ [])

    pushed : AreBasisMultipliers cuts basis amounts common (n + 1) more
    unfolding more new
    pushed = record {
      few = omega (arith, sofar.few, length-append ms (new ∷ []));
      each = All-push (IsMultiplierOf cuts basis amounts common (n + 1)) ms new (All-weaker (IsMultiplierOf cuts basis amounts common n) (IsMultiplierOf cuts basis amounts common (n + 1)) (later n) ms sofar.each) own;
      different = λ none. all_pairs_push (λ a b. a.cut ≢ b.cut) ms new (sofar.different none) (apart none);
      whole = λ j before above. ⊎_elim
          (λ same. subst (λ xs. Contains xs (get_or amounts j 0 / common)) (sym nums_more)
          (subst (λ i. Contains (map (λ m. m.num) ms ++ (get_or amounts n 0 / common) ∷ []) (get_or amounts i 0 / common)) (sym same) (Contains-push (map (λ m. m.num) ms) (get_or amounts n 0 / common))))
          (λ other. subst (λ xs. Contains xs (get_or amounts j 0 / common)) (sym nums_more)
          (Contains-append_left (map (λ m. m.num) ms) ((get_or amounts n 0 / common) ∷ []) (get_or amounts j 0 / common) (sofar.whole j (omega (arith, before, other)) above)))
          (cases_eq j n);
      sums = λ links columns named gains.
          let name_is : (columns n).name ≡ name = name_at columns n name lt named at in
          let here : IsPlaceOf cuts (columns n).name place = subst (λ x. IsPlaceOf cuts x place) (sym name_is) stands in
          subst (λ k. AreLinesOf links k columns (λ j. get_or amounts j 0 / common) (lines_of cuts more)) (next n)
          (subst (AreLinesOf links (suc n) columns (λ j. get_or amounts j 0 / common)) (sym lines_more)
          (lines_push links columns (λ j. get_or amounts j 0 / common) n (lines_of cuts ms) (record { cut = cut_at cuts place; num = get_or amounts n 0 / common }) refl here.named (gains n lt place here) (sofar.sums links columns named gains)));
    }

  -- the multiplier of one column more
  pub multipliers_more : (n num : ℕ) (name : MasterColumn) (ms more : List Multiplier) → n < length basis → slice_get basis n ≡ Some name → num ≡ get_or amounts n 0 / common → PushesMultiplier cuts name num ms more
      → AreBasisMultipliers cuts basis amounts common n ms → AreBasisMultipliers cuts basis amounts common (n + 1) more
  unfolding more new
  multipliers_more n num name ms more lt at is push sofar = ⊎_elim
      (λ none. subst (AreBasisMultipliers cuts basis amounts common (n + 1)) (sym none.1) (passed n ms (sym is ∙ none.0) sofar))
      (λ some. subst (AreBasisMultipliers cuts basis amounts common (n + 1)) (ap (λ x. ms ++ record { cut = some.0; num = x } ∷ []) (sym is) ∙ sym some.3)
      (pushed n name ms lt at some.0 some.1 (subst (λ x. 0 < x) is some.2) sofar))
      push
