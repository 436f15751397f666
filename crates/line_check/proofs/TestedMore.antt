-- lines that are tested, one by one
use Rattle.std.proofs.Common.{◌≡◌, ℕ, zero, suc, ◌+◌, ◌<◌, ◌≤◌, ◌↔◌, inl, inr, ⊎_elim, Bool, true, false, List, [], ◌∷◌, ◌++◌, IsTrue, Some, get_or, length, length-append, map, slice_get, take, append_assoc, refl, ap, subst, sym, ◌∙◌, arith}
use Rattle.net_core.proofs.Library.{cases_lt, false≢true, map-append, take_more}
use Rattle.master_bound.specs.declared.answer.Multiplier.{Multiplier}
use Rattle.plan_terms.specs.Terms.{Case, CutLine, Link}
use Rattle.line_check.{specs.Inequalities.{AreNamedBy, WeightedLine}, specs.Lines.{IsDividedLine, IsMadeFrom, Naming, Source, names_among}, specs.Testing.{AreTested, IsTestedAs, names_by, says, test_at}, specs.declared.inequality.Inequality.Inequality, specs.declared.line.Line.Line, specs.declared.line.Line.TheVariants.{Divided, Table}, specs.declared.line.TableKind.TheVariants.{Plain, Failing}, specs.declared.tested_lines.Tested.Tested}

-- ---- what is made of lines is made under each naming that names these lines

pub named_under : (names others : ℕ → Inequality → Type 0) → ((i : ℕ) (l : Inequality) → names i l → others i l)
    → (ms : List Multiplier) (terms : List WeightedLine) → AreNamedBy names ms terms → AreNamedBy others ms terms
named_under names others to [] [] named = tt
named_under names others to [] (t ∷ ts) named = absurd named
named_under names others to (m ∷ ms) [] named = absurd named
named_under names others to (m ∷ ms) (t ∷ ts) named = ((to m.cut t.line named.0.0, named.0.1), named_under names others to ms ts named.1)

divided_under : (links : List Link) (names others : ℕ → Inequality → Type 0) → ((i : ℕ) (l : Inequality) → names i l → others i l)
    → (divisor : ℕ) (ms : List Multiplier) (made : Inequality) → IsDividedLine links names divisor ms made → IsDividedLine links others divisor ms made
divided_under links names others to divisor ms made is = record {
  terms = is.terms;
  named = named_under names others to ms is.terms is.named;
  some = is.some;
  few = is.few;
  nums = is.nums;
  positive = is.positive;
  divisor_limit = is.divisor_limit;
  need_limit = is.need_limit;
  price_limit = is.price_limit;
  is = is.is;
}

pub made_under : (p : Case) (names others : Naming) → ((robust : Bool) (i : ℕ) (l : Inequality) → names robust i l → others robust i l)
    → (robust : Bool) (source : Source) (made : Inequality) → IsMadeFrom p names robust source made → IsMadeFrom p others robust source made
made_under p names others to robust (inl cut) made is = is
made_under p names others to robust (inr (Divided divisor terms)) made is = divided_under p.links (names robust) (others robust) (to robust) divisor terms made is
made_under p names others to robust (inr (Table index Plain weights)) made is = (is.0, to robust index is.0 is.1, is.2)
made_under p names others to robust (inr (Table index Failing weights)) made is = (is.0, (is.1.0, to true index is.1.0 is.1.1, is.1.2))

-- what is made of robust lines is made of lines
pub made_of_robust : (p : Case) (names : Naming) → ((i : ℕ) (l : Inequality) → names true i l → names false i l)
    → (source : Source) (made : Inequality) → IsMadeFrom p names true source made → IsMadeFrom p names false source made
made_of_robust p names to (inl cut) made is = (is.0, λ no. absurd (false≢true no), is.2)
made_of_robust p names to (inr (Divided divisor terms)) made is = divided_under p.links (names true) (names false) to divisor terms made is
made_of_robust p names to (inr (Table index Plain weights)) made is = (is.0, to index is.0 is.1, is.2)
made_of_robust p names to (inr (Table index Failing weights)) made is = absurd (false≢true (sym is.0))

-- ---- sources that are appended

get_before : {X : Type 0} (xs : List X) (x : X) (i : ℕ) → i < length xs → slice_get (xs ++ x ∷ []) i ≡ slice_get xs i
get_before [] x i lt = absurd (omega (arith, lt))
get_before (y ∷ ys) x zero lt = refl
get_before (y ∷ ys) x (suc i) lt = get_before ys x i (omega (arith, lt))

get_last : {X : Type 0} (xs : List X) (x : X) → slice_get (xs ++ x ∷ []) (length xs) ≡ Some x
get_last [] x = refl
get_last (y ∷ ys) x = get_last ys x

module _ (p : Case) (sources : List Source) (next : Source) where
  -- the names of the first sources stay
  names_stay : (n : ℕ) → n ≤ length sources → (robust : Bool) (i : ℕ) (l : Inequality) → names_among p sources n robust i l → names_among p (sources ++ next ∷ []) n robust i l
  names_stay zero few robust i l names = absurd names
  names_stay (suc n) few robust i l (inl before) = inl (names_stay n (omega (arith, few)) robust i l before)
  names_stay (suc n) few robust i l (inr here) = inr (
    here.0,
    record {
      source = here.1.source;
      at = get_before sources next n (omega (arith, few)) ∙ here.1.at;
      is = made_under p (names_among p sources n) (names_among p (sources ++ next ∷ []) n) (names_stay n (omega (arith, few))) robust here.1.source l here.1.is;
    },
  )

  names_were : (n : ℕ) → n ≤ length sources → (robust : Bool) (i : ℕ) (l : Inequality) → names_among p (sources ++ next ∷ []) n robust i l → names_among p sources n robust i l
  names_were zero few robust i l names = absurd names
  names_were (suc n) few robust i l (inl before) = inl (names_were n (omega (arith, few)) robust i l before)
  names_were (suc n) few robust i l (inr here) = inr (
    here.0,
    record {
      source = here.1.source;
      at = sym (get_before sources next n (omega (arith, few))) ∙ here.1.at;
      is = made_under p (names_among p (sources ++ next ∷ []) n) (names_among p sources n) (names_were n (omega (arith, few))) robust here.1.source l here.1.is;
    },
  )

-- ---- one more test

test_before : (tested : List Tested) (t : Tested) (i : ℕ) → i < length tested → test_at (tested ++ t ∷ []) i ≡ test_at tested i
test_before [] t i lt = absurd (omega (arith, lt))
test_before (u ∷ us) t zero lt = refl
test_before (u ∷ us) t (suc i) lt = test_before us t i (omega (arith, lt))

test_last : (tested : List Tested) (t : Tested) → test_at (tested ++ t ∷ []) (length tested) ≡ t
test_last [] t = refl
test_last (u ∷ us) t = test_last us t

module _ (p : Case) (sources : List Source) (tested : List Tested) (source : Source) (t : Tested) (all : AreTested p sources tested) (told : IsTestedAs p tested source t) where
  longer : length (tested ++ t ∷ []) ≡ suc (length sources)
  longer = length-append tested (t ∷ []) ∙ omega (arith, all.same)

  -- what an index names by the tests it names by one more
  named_still : (robust : Bool) (i : ℕ) (l : Inequality) → names_by tested robust i l → names_by (tested ++ t ∷ []) robust i l
  named_still robust i l names =
      let same = test_before tested t i names.0 in (
        omega (arith, names.0, all.same, longer),
        subst (λ u. IsTrue (says robust u)) (sym same) names.1,
        names.2 ∙ sym (ap (λ (u : Tested). u.line) same),
      )

  named_new : (robust : Bool) (l : Inequality) → IsTrue (says robust t) → l ≡ t.line → names_by (tested ++ t ∷ []) robust (length sources) l
  named_new robust l holds same =
      let own : test_at (tested ++ t ∷ []) (length sources) ≡ t = ap (λ i. test_at (tested ++ t ∷ []) i) (sym all.same) ∙ test_last tested t in (
        omega (arith, longer),
        subst (λ u. IsTrue (says robust u)) (sym own) holds,
        same ∙ sym (ap (λ (u : Tested). u.line) own),
      )

  to_tests : (robust : Bool) (i : ℕ) (l : Inequality) → names_among p (sources ++ source ∷ []) (suc (length sources)) robust i l → names_by (tested ++ t ∷ []) robust i l
  to_tests robust i l (inl before) = named_still robust i l ((all.names robust i l).0 (names_were p sources source (length sources) (omega arith) robust i l before))
  to_tests robust i l (inr here) =
      let own : here.1.source ≡ source = cc (here.1.at, get_last sources source) in
      let made = subst (λ x. IsMadeFrom p (names_among p (sources ++ source ∷ []) (length sources)) robust x l) own here.1.is in
      let by = made_under p (names_among p (sources ++ source ∷ []) (length sources)) (names_by tested)
      (λ r k x n. (all.names r k x).0 (names_were p sources source (length sources) (omega arith) r k x n)) robust source l made in
      let holds = (told robust l).0 by in
      subst (λ k. names_by (tested ++ t ∷ []) robust k l) (sym here.0) (named_new robust l holds.0 holds.1)

  from_tests : (robust : Bool) (i : ℕ) (l : Inequality) → names_by (tested ++ t ∷ []) robust i l → names_among p (sources ++ source ∷ []) (suc (length sources)) robust i l
  from_tests robust i l names = ⊎_elim
      (λ (before : i < length tested).
      let same = test_before tested t i before in
      inl (names_stay p sources source (length sources) (omega arith) robust i l ((all.names robust i l).1
      (before, subst (λ u. IsTrue (says robust u)) same names.1, names.2 ∙ ap (λ (u : Tested). u.line) same))))
      (λ (after : length tested ≤ i).
      let last : i ≡ length sources = omega (arith, after, names.0, all.same, longer) in
      let own : test_at (tested ++ t ∷ []) i ≡ t = ap (λ k. test_at (tested ++ t ∷ []) k) (last ∙ sym all.same) ∙ test_last tested t in
      let by = (told robust l).1 (subst (λ u. IsTrue (says robust u)) own names.1, names.2 ∙ ap (λ (u : Tested). u.line) own) in
      inr (
        last,
        record {
          source = source;
          at = get_last sources source;
          is = made_under p (names_by tested) (names_among p (sources ++ source ∷ []) (length sources))
              (λ r k x n. names_stay p sources source (length sources) (omega arith) r k x ((all.names r k x).1 n)) robust source l by;
        },
      ))
      (cases_lt i (length tested))

  pub tested_more : AreTested p (sources ++ source ∷ []) (tested ++ t ∷ [])
  tested_more =
      let count : length (sources ++ source ∷ []) ≡ suc (length sources) = length-append sources (source ∷ []) ∙ omega arith in
      record {
        same = longer ∙ sym count;
        names = λ robust i l. subst (λ n. names_among p (sources ++ source ∷ []) n robust i l ↔ names_by (tested ++ t ∷ []) robust i l) (sym count) (to_tests robust i l, from_tests robust i l);
      }

-- a cut more
pub cut_more : (p : Case) (cuts : List CutLine) (tested : List Tested) (i : ℕ) (d : CutLine) (t : Tested) → i < length cuts
    → AreTested p (map inl (take i cuts)) tested → IsTestedAs p tested (inl (get_or cuts i d)) t → AreTested p (map inl (take (i + 1) cuts)) (tested ++ t ∷ [])
cut_more p cuts tested i d t lt all is =
    let more : map inl (take (i + 1) cuts) ≡ map inl (take i cuts) ++ inl (get_or cuts i d) ∷ [] = ap (λ xs. map inl xs) (take_more cuts i d lt) ∙ map-append inl (take i cuts) (get_or cuts i d ∷ []) in
    subst (λ xs. AreTested p xs (tested ++ t ∷ [])) (sym more) (tested_more p (map inl (take i cuts)) tested (inl (get_or cuts i d)) t all is)

-- a further line more
pub line_more : (p : Case) (first : List Source) (lines : List Line) (tested : List Tested) (i : ℕ) (d : Line) (t : Tested) → i < length lines
    → AreTested p (first ++ map inr (take i lines)) tested → IsTestedAs p tested (inr (get_or lines i d)) t → AreTested p (first ++ map inr (take (i + 1) lines)) (tested ++ t ∷ [])
line_more p first lines tested i d t lt all is =
    let more : map inr (take (i + 1) lines) ≡ map inr (take i lines) ++ inr (get_or lines i d) ∷ [] = ap (λ xs. map inr xs) (take_more lines i d lt) ∙ map-append inr (take i lines) (get_or lines i d ∷ []) in
    let whole : first ++ map inr (take (i + 1) lines) ≡ (first ++ map inr (take i lines)) ++ inr (get_or lines i d) ∷ [] = ap (λ xs. first ++ xs) more ∙ sym (append_assoc first (map inr (take i lines)) (inr (get_or lines i d) ∷ [])) in
    subst (λ xs. AreTested p xs (tested ++ t ∷ [])) (sym whole) (tested_more p (first ++ map inr (take i lines)) tested (inr (get_or lines i d)) t all is)
