-- sums of lines that hold make lines that hold
use Rattle.std.proofs.Common.{◌≡◌, ℕ, ◌*◌, ◌<◌, ◌≤◌, ◌^◌, ◌++◌, List, [], ◌∷◌, All, false, refl, ap, subst, sym, ◌∙◌, arith, IsPermutation}
use Rattle.net_core.proofs.Library.{All-cons, All-nil, All-permutation, All-push, All-weaker, sum_by-cons}
use Rattle.plan_terms.specs.Terms.{Link}
use Rattle.line_check.{specs.Terms.{WeightedLine, need_of, summed_need, IsDividedLine, divided_line, divided_up, IsSoundAt, names_by, test_at, weighed, Multiplier}, specs.declared.line.Line.Line, specs.declared.line.Line.TheVariants.Divided, specs.declared.tested_lines.Tested.Tested, proofs.DividedTold.{IsSaidAt, named_all}}
use Rattle.line_maker.{specs.Made.{IsCoarseLine, IsMadeLine}, specs.declared.candidate.Candidate.Candidate, specs.declared.numbers.Lowest.Lowest, specs.inner.Candidates.{AreFewTerms, HasSmallRight, IsNarrowSum, IsSumCandidate, IsTermOf, once}, specs.inner.Divisors.IsLineDivisor}

-- candidates in another order
pub candidates_permuted : (tested : List Tested) (xs ys : List Candidate) → IsPermutation xs ys → All (IsSumCandidate tested) xs
    → All (IsSumCandidate tested) ys
candidates_permuted tested xs ys same are = All-permutation (IsSumCandidate tested) xs ys same are

module _ (links : List Link) (tested : List Tested) where
  -- the divided line of a narrow sum
  divided_of : (divisor : ℕ) (terms : List Multiplier) → IsLineDivisor divisor → AreFewTerms tested terms → IsNarrowSum links tested terms
      → IsDividedLine links (names_by tested false) divisor terms (divided_line links divisor (weighed tested terms))
  divided_of divisor terms limits are narrow = record {
    terms = weighed tested terms;
    named = named_all tested false terms (All-weaker (IsTermOf tested) (λ m. IsSaidAt tested false m.cut) (λ m h. h.sound) terms are.each);
    some = are.some;
    few = omega (arith, are.few);
    nums = All-weaker (IsTermOf tested) (λ m. (1 ≤ m.num) × (m.num < 2 ^ 62)) (λ m h. (h.some, h.narrow)) terms are.each;
    positive = limits.0;
    divisor_limit = limits.1;
    need_limit = narrow.need;
    price_limit = λ e m e_lt m_lt. narrow.prices e e_lt m m_lt;
    is = refl;
  }

  -- a line more, of a narrow sum
  pub made_more : (lines new : List Line) (divisor : ℕ) (terms : List Multiplier) → new ≡ lines ++ Divided divisor terms ∷ []
      → All (IsMadeLine links tested) lines → IsLineDivisor divisor → AreFewTerms tested terms → IsNarrowSum links tested terms
      → All (IsMadeLine links tested) new
  made_more lines new divisor terms is made limits are narrow =
      subst (All (IsMadeLine links tested)) (sym is) (All-push (IsMadeLine links tested) lines (Divided divisor terms) made
      (divided_line links divisor (weighed tested terms), divided_of divisor terms limits are narrow))

  -- a line by itself is a sum
  one_term : (i : ℕ) → IsSoundAt tested i → AreFewTerms tested (once i)
  one_term i sound = record {
    some = omega arith;
    few = omega arith;
    each = All-cons (IsTermOf tested) (record { num = 1; cut = i }) []
        (record { sound = sound; some = omega arith; narrow = omega arith }) (All-nil (IsTermOf tested));
  }

  need_once : (i : ℕ) → summed_need (weighed tested (once i)) ≡ need_of (test_at tested i).line
  need_once i = omega (arith, sum_by-cons (λ (t : WeightedLine). t.num * need_of t.line) (record { line = (test_at tested i).line; num = 1 }) [])

  -- one line over a divisor that leaves it a small right side
  coarse_of : (i divisor need : ℕ) → IsLineDivisor divisor → IsSoundAt tested i → IsNarrowSum links tested (once i)
      → need ≡ divided_up (need_of (test_at tested i).line) divisor → 1 ≤ need → need ≤ 64 → IsCoarseLine links tested (Divided divisor (once i))
  coarse_of i divisor need limits sound narrow is some small =
      let right : need ≡ divided_up (summed_need (weighed tested (once i))) divisor = is ∙ ap (λ n. divided_up n divisor) (sym (need_once i)) in (
        divided_line links divisor (weighed tested (once i)),
        divided_of divisor (once i) limits (one_term i sound) narrow,
        omega (arith, some, right),
        omega (arith, small, right),
      )

  -- a coarse line more
  pub coarse_more : (lines new : List Line) (i : ℕ) (terms : List Multiplier) (lowest : Lowest) → new ≡ lines ++ Divided lowest.divisor terms ∷ []
      → All (IsCoarseLine links tested) lines → terms ≡ once i → IsLineDivisor lowest.divisor → IsSoundAt tested i → IsNarrowSum links tested terms
      → HasSmallRight (test_at tested i).line lowest → All (IsCoarseLine links tested) new
  coarse_more lines new i terms lowest is coarse same limits sound narrow small =
      let one = coarse_of i lowest.divisor lowest.numbers.need limits sound (subst (IsNarrowSum links tested) same narrow) small.need small.some small.small in
      subst (All (IsCoarseLine links tested)) (sym is) (All-push (IsCoarseLine links tested) lines (Divided lowest.divisor terms) coarse
      (subst (λ ts. IsCoarseLine links tested (Divided lowest.divisor ts)) (sym same) one))
