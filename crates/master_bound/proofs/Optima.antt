-- the cuts and the amounts of an optimum of the master program
use Rattle.std.proofs.Common.{◌≡◌, ℕ, zero, suc, ◌*◌, ◌/◌, ◌^◌, ◌<◌, ◌≤◌, ◌⊎◌, inl, inr, List, [], ◌∷◌, AllPairs, Some, get_or, length, map, slice_get, slice_index, mul-pos, refl, sym, ap, ◌∙◌, subst, ⊎_elim, arith, ℤ, pos, ◌+ℤ◌, ◌*ℤ◌, ◌<ℤ◌}
use Rattle.net_core.proofs.Library.{ints, Contains-get_or, slice_get_within, *ℤ-zero, pos-*ℤ-pos, below-same, below-times}
use Rattle.checked_fraction.{specs.Terms.num, proofs.Products.regroup}
use Rattle.module_prices.specs.declared.cheapest.UnitPair.{UnitPair}
use Rattle.plan_terms.specs.Terms.{MasterColumn, Metric, Value, Link, CutLine, IsGreatestDivisor, CertificateLine, asked}
use Rattle.simplex_law.{specs.Terms.{dot, IsPacking, IsSlack}, proofs.Lemmas.{dot-same, sum-same, sum-times, unit-other, unit-same}}
use Rattle.simplex_core.specs.declared.optimum.Optimum.{Optimum}
use Rattle.master_law.{specs.Terms.{AreLinesOf, HasWideValue, IsMasterEvidence, IsSameCut, column_given, column_lengths, cut_gain, master_bound, master_slack, IsCutColumn, IsMasterColumn}, proofs.Lines.{asked_times, line_times, lines_none, lines_push, lines_slack, price_times}, proofs.Packing.same_once, proofs.WideLines.wide_lines}
use Rattle.master_bound.{specs.Answers.cut_at, specs.inner.Lines.{AreAmounts, GainsAsCut, HaveOneName, IsListedCut, amount_of}, specs.inner.Programs.IsMasterSolution, specs.Optima.{IsMasterOptimum, IsWideOptimum}, proofs.Lowest.{common_some, in_lowest, whole_amount, whole_den}}

no_metric : (cut : CutLine) (k : ℕ) → Metric cut.state cut.lengths ≡ master_slack k → ⊥
no_metric cut k e = cc e

module _ (links : List Link) (pairs : List UnitPair) (cuts : List CutLine) (best : Optimum MasterColumn) (solution : IsMasterOptimum links pairs cuts best) where
  -- the columns of the basis are cuts and slacks
  column : (j : ℕ) → j < length links → IsMasterColumn links pairs cuts (solution.basis j)
  column j l = solution.optimum.best.feasible.columns j l

  named : (j : ℕ) (name : MasterColumn) → slice_get best.basis j ≡ Some name → (j < length links) × ((solution.basis j).name ≡ name)
  named j name at =
      let inside : j < length links = subst (λ n. j < n) solution.names.count (slice_get_within best.basis j name at) in
      (inside, cc (solution.names.each j inside, at))

  -- a column of the basis gains as the cut of its name
  pub gains_as_cut : AllPairs (λ a b. IsSameCut a b → ⊥) cuts → (j : ℕ) → j < length best.basis → GainsAsCut links cuts (solution.basis j)
  gains_as_cut different j lt place stands = ⊎_elim
      (λ (is : IsCutColumn links pairs cuts (solution.basis j)).
      let none : CutLine = record { state = record { 0 = 0 }; lengths = []; right = 0 } in
      let other = cut_at cuts place in
      let names : Metric is.cut.state is.cut.lengths ≡ Metric other.state other.lengths = sym is.named ∙ stands.named in
      let states : is.cut.state ≡ other.state = cc names in
      let lengths : is.cut.lengths ≡ other.lengths = cc names in
      is.gain ∙ ap (cut_gain links) (same_once cuts different is.cut other is.listed (Contains-get_or cuts place none stands.inside) (states, lengths)))
      (λ (is : IsSlack (length links) master_slack (solution.basis j)). absurd (no_metric (cut_at cuts place) is.row (sym stands.named ∙ is.named)))
      (column j (subst (λ n. j < n) solution.names.count lt))

  -- columns of one name have equal entries, so that no inverse tells them apart
  pub all_named : IsPacking (length links) (master_bound pairs) (IsMasterColumn links pairs cuts) → HaveOneName best.basis → ⊥
  all_named packing h =
      let m = length links in
      let a = named h.first h.name h.at_first in
      let b = named h.second h.name h.at_second in
      let entries = (packing.named (solution.basis h.first) (solution.basis h.second) (column h.first a.0) (column h.second b.0) (a.1 ∙ sym b.1)).1 in
      let r = solution.optimum.best.feasible.filled h.first a.0 in
      let one : dot m r.0 (solution.basis h.first).entry ≡ r.1 *ℤ pos 1 = r.2.1 h.first a.0 ∙ ap (λ x. r.1 *ℤ x) (unit-same h.first) in
      let two : dot m r.0 (solution.basis h.second).entry ≡ r.1 *ℤ pos 0 = r.2.1 h.second b.0 ∙ ap (λ x. r.1 *ℤ x) (unit-other h.first h.second (λ e. apart h.first h.second h.before e)) in
      let three = dot-same m r.0 r.0 (solution.basis h.first).entry (solution.basis h.second).entry (λ k l. same (r.0 k)) entries in
      zero r.1 r.2.0 (sym one ∙ (three ∙ (two ∙ *ℤ-zero r.1)))
    where
      same : (x : ℤ) → x ≡ x
      same x = omega (arith, ints)

      apart : (a b : ℕ) → a < b → a ≡ b → ⊥
      apart a b l e = omega (arith, l, e)

      zero : (x : ℤ) → pos 0 <ℤ x → x *ℤ pos 1 ≡ pos 0 → ⊥
      zero x h e = omega (arith, ints, h, e)

  -- lines of its first n columns, whose numerators are the values
  pub some_lines : (n : ℕ) → n ≤ length links → (lines : List CertificateLine) × AreLinesOf links n solution.basis (λ j. get_or best.values j 0) lines
  some_lines zero le = ([], lines_none links solution.basis (λ j. get_or best.values j 0))
  some_lines (suc n) le =
      let before = some_lines n (omega (arith, le)) in
      let values : ℕ → ℕ = λ j. get_or best.values j 0 in
      ⊎_elim
      (λ (is : IsCutColumn links pairs cuts (solution.basis n)). (_, lines_push links solution.basis values n before.0 (record { cut = is.cut; num = values n }) refl is.named is.gain before.1))
      (λ (is : IsSlack (length links) master_slack (solution.basis n)). (before.0, lines_slack links solution.basis values n before.0 (ap column_lengths is.named) is.gain before.1))
      (column n (omega (arith, le)))

  module _ (amounts : List ℕ) (are : AreAmounts best.basis best.values (length best.basis) amounts) where
    amount_is : (j : ℕ) → j < length links → get_or amounts j 0 ≡ amount_of (solution.basis j).name (get_or best.values j 0)
    amount_is j l = are.each j (solution.basis j).name (subst (λ n. j < n) (sym solution.names.count) l) (solution.names.each j l)

    cut_amount : (j : ℕ) → j < length links → IsCutColumn links pairs cuts (solution.basis j) → get_or amounts j 0 ≡ get_or best.values j 0
    cut_amount j l is = amount_is j l ∙ ap (λ name. amount_of name (get_or best.values j 0)) is.named

    slack_amount : (j : ℕ) → j < length links → IsSlack (length links) master_slack (solution.basis j) → get_or amounts j 0 ≡ 0
    slack_amount j l is = amount_is j l ∙ ap (λ name. amount_of name (get_or best.values j 0)) is.named

    -- a column of which something is taken is a cut of the list
    pub listed : (j : ℕ) (name : MasterColumn) → slice_get best.basis j ≡ Some name → 0 < get_or amounts j 0 → (cut : CutLine) × IsListedCut cuts name cut
    listed j name at above =
        let a = named j name at in
        ⊎_elim
        (λ (is : IsCutColumn links pairs cuts (solution.basis j)). (is.cut, record { listed = is.listed; named = sym a.1 ∙ is.named }))
        (λ (is : IsSlack (length links) master_slack (solution.basis j)). absurd (omega (arith, above, slack_amount j a.0 is)))
        (column j a.0)

    module _ (common : ℕ) (some : 0 < best.den) (divisor : IsGreatestDivisor (best.den ∷ amounts) common) where
      abbrev few : ℕ → ℕ
      few j = get_or amounts j 0 / common

      inside : (j : ℕ) → j < length links → j < length amounts
      inside j l = omega (arith, l, are.count, solution.names.count)

      pub of_cut : (j : ℕ) → j < length links → IsCutColumn links pairs cuts (solution.basis j) → get_or best.values j 0 ≡ common * few j
      of_cut j l is = sym (cut_amount j l is) ∙ sym (whole_amount best.den amounts common some divisor j (inside j l))

      pub of_slack : (j : ℕ) → j < length links → IsSlack (length links) master_slack (solution.basis j) → few j ≡ 0
      of_slack j l is = gone common (few j) (common_some best.den amounts common some divisor) (whole_amount best.den amounts common some divisor j (inside j l) ∙ slack_amount j l is)
        where
          gone : (a b : ℕ) → 0 < a → a * b ≡ 0 → b ≡ 0
          gone a zero h e = refl
          gone a (suc b) h e = absurd (let p : 0 < a * suc b = mul-pos h (let q : 0 < suc b = omega arith in q) in omega (arith, p, e))

      -- where a numerator of the certificate, or what its lines ask for, is too wide, so is a value
      pub wide_value : (n : ℕ) (lines : List CertificateLine) → n ≤ length links → AreLinesOf links n solution.basis few lines
          → ((j : ℕ) × (j < length links) × (2 ^ 62 ≤ few j)) ⊎ (2 ^ 126 ≤ asked lines) → HasWideValue links pairs cuts solution.basis
      wide_value n lines le of wide =
          wide_lines links pairs cuts solution.basis (λ j. get_or best.values j 0) best.den (num best.duals.nums) best.duals.den solution.optimum common (best.den / common) few
          (whole_den best.den amounts common some divisor) of_cut of_slack
          (λ d of_part of_nums. in_lowest best.den amounts common some divisor d of_part (λ j l. of_nums j (omega (arith, l, are.count, solution.names.count))))
          n lines le of (⊎_elim (λ first. inl first) (λ second. inr (inl second)) wide)

      -- lines of the amounts over the divisor, with numerators as many times as large, are lines of the values
      pub lines_whole : (lines : List CertificateLine) → AreLinesOf links (length links) solution.basis few lines → AreLinesOf links (length links) solution.basis (λ j. get_or best.values j 0) (map (line_times common) lines)
      lines_whole lines of = record {
        price_is = λ e.
            price_times common lines e ∙ (ap (λ x. common * x) (of.price_is e)
            ∙ (sym (below-times m common (λ j. few j * slice_index (column_lengths (solution.basis j).name) e)) ∙ below-same m _ _ (λ j l. ⊎_elim
            (λ is. back common (few j) (get_or best.values j 0) (slice_index (column_lengths (solution.basis j).name) e) (of_cut j l is))
            (λ (is : IsSlack m master_slack (solution.basis j)). none (few j) (get_or best.values j 0) (slice_index (column_lengths (solution.basis j).name) e) (ap (λ name. slice_index (column_lengths name) e) is.named))
            (column j l))));
        asked_is =
            ap pos (asked_times common lines) ∙ (sym (pos-*ℤ-pos common (asked lines)) ∙ (ap (λ x. pos common *ℤ x) of.asked_is
            ∙ (sym (sum-times m (pos common) (λ j. pos (few j) *ℤ weight j)) ∙ sum-same m _ _ (λ j l. ⊎_elim
            (λ is. sym (regroup (pos common) (pos (few j)) (weight j)) ∙ ap (λ x. x *ℤ weight j) (pos-*ℤ-pos common (few j) ∙ ap pos (sym (of_cut j l is))))
            (λ is. ap (λ x. pos common *ℤ (pos (few j) *ℤ x)) (slack_weight j is) ∙ (ap (λ x. pos common *ℤ x) (*ℤ-zero (pos (few j))) ∙ (*ℤ-zero (pos common)
            ∙ sym (ap (λ x. pos (get_or best.values j 0) *ℤ x) (slack_weight j is) ∙ *ℤ-zero (pos (get_or best.values j 0))))))
            (column j l)))));
      }
        where
          m : ℕ
          m = length links

          weight : ℕ → ℤ
          weight j = (solution.basis j).gain +ℤ pos (column_given links (solution.basis j).name)

          slack_weight : (j : ℕ) → IsSlack (length links) master_slack (solution.basis j) → weight j ≡ pos 0
          slack_weight j is = let none : column_given links (solution.basis j).name ≡ 0 = ap (column_given links) is.named in omega (arith, ints, is.gain, none)

          back : (g f v x : ℕ) → v ≡ g * f → g * (f * x) ≡ v * x
          back g f v x e = let p : v * x ≡ (g * f) * x = ap (λ y. y * x) e in omega (arith, p)

          none : (f v x : ℕ) → x ≡ 0 → common * (f * x) ≡ v * x
          none f v x z = let p : f * x ≡ 0 = ap (λ y. f * y) z ∙ omega arith in let q : v * x ≡ 0 = ap (λ y. v * y) z ∙ omega arith in ap (λ y. common * y) p ∙ (omega (arith, q))

-- an optimum that is reached is one
pub reached_optimum : (links : List Link) (pairs : List UnitPair) (cuts : List CutLine) (best : Optimum MasterColumn) → IsMasterSolution links pairs cuts best → IsMasterOptimum links pairs cuts best
reached_optimum links pairs cuts best s = record {
  basis = s.basis;
  names = s.names;
  optimum = s.optimum;
  narrow = s.narrow;
  count = s.count;
  prices = s.prices;
  positive = s.positive;
}

-- evidence that a value of a reached basis is too wide
pub value_evidence : (links : List Link) (pairs : List UnitPair) (cuts : List CutLine) (best : Optimum MasterColumn) → IsMasterSolution links pairs cuts best → IsWideOptimum links pairs cuts best → IsMasterEvidence links pairs cuts best.basis Value
unfolding reached_optimum
value_evidence links pairs cuts best s wide = record {
  basis = s.basis;
  evidence = record { named = s.names; feasible = s.optimum.best.feasible; holds = wide (reached_optimum links pairs cuts best s) };
  reached = s.reached;
}
