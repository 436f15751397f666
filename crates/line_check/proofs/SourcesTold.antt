-- what tests say of sources, told as they should be
use Rattle.std.proofs.Common.{◌≡◌, ℕ, ◌↔◌, inr, Bool, true, false, List, Option, None, Some, All, IsTrue, MatchOption, refl, subst, sym, ◌∙◌}
use Rattle.net_core.proofs.Library.{and_parts, false≢true}
use Rattle.master_bound.specs.declared.answer.Multiplier.{Multiplier}
use Rattle.plan_terms.specs.Terms.{Case}
use Rattle.line_check.{specs.Lines.{IsDividedLine, IsMadeFrom, IsTableOver, Source}, specs.Testing.{IsSoundAt, IsTestedAs, names_by, no_test, test_at, weighed}, specs.declared.inequality.Inequality.Inequality, specs.declared.line.Line.TheVariants.{Divided, Table}, specs.declared.line.TableKind.TheVariants.{Plain, Failing}, specs.declared.tested_lines.Tested.Tested, specs.inner.Dividing.IsRobustAt, proofs.DividedTold.{divided_is, divided_need, divided_prices, named_all, terms_told}, proofs.TestedMore.made_of_robust, proofs.SameTables.table_same}

-- the test of a line that holds
abbrev held : Bool → Inequality → Tested
held robust made = record { sound = true; robust = robust; line = made }

robust_by : (earlier : List Tested) (i : ℕ) (l : Inequality) → names_by earlier true i l → names_by earlier false i l
robust_by earlier i l names = (names.0, (and_parts (test_at earlier i).sound (test_at earlier i).robust names.1).0, names.2)

-- a source that makes nothing
pub refused_told : (p : Case) (earlier : List Tested) (source : Source) → ((made : Inequality) → IsMadeFrom p (names_by earlier) false source made → ⊥) → IsTestedAs p earlier source no_test
refused_told p earlier source none true made =
    (λ is. absurd (none made (made_of_robust p (names_by earlier) (robust_by earlier) source made is)), λ said. absurd (false≢true said.0))
refused_told p earlier source none false made = (λ is. absurd (none made is), λ said. absurd (false≢true said.0))

-- a source that makes one line, and a robust one where a test says so
pub held_told : (p : Case) (earlier : List Tested) (source : Source) (line : Inequality) (robust : Bool) → IsMadeFrom p (names_by earlier) false source line
    → ((made : Inequality) → IsMadeFrom p (names_by earlier) false source made → made ≡ line)
    → (IsTrue robust ↔ IsMadeFrom p (names_by earlier) true source line)
    → IsTestedAs p earlier source (held robust line)
held_told p earlier source line robust is one test true made = (
  λ of.
      let same = one made (made_of_robust p (names_by earlier) (robust_by earlier) source made of) in
      (test.1 (subst (λ l. IsMadeFrom p (names_by earlier) true source l) same of), same),
  λ said. subst (λ l. IsMadeFrom p (names_by earlier) true source l) (sym said.1) (test.0 said.0),
)
held_told p earlier source line robust is one test false made = (
  λ of. (refl, one made of),
  λ said. subst (λ l. IsMadeFrom p (names_by earlier) false source l) (sym said.1) is,
)

-- a divided line
pub divided_told : (p : Case) (earlier : List Tested) (divisor : ℕ) (ms : List Multiplier) (line : Inequality) (robust : Bool)
    → IsDividedLine p.links (names_by earlier false) divisor ms line → (IsTrue robust ↔ All (λ m. IsRobustAt earlier m.cut) ms)
    → IsTestedAs p earlier (inr (Divided divisor ms)) (held robust line)
divided_told p earlier divisor ms line robust is test =
    held_told p earlier (inr (Divided divisor ms)) line robust is
    (λ made of. divided_is earlier false p.links divisor ms made of ∙ sym (divided_is earlier false p.links divisor ms line is)) (
      λ yes. record {
        terms = weighed earlier ms;
        named = named_all earlier true ms (test.0 yes);
        some = is.some;
        few = is.few;
        nums = is.nums;
        positive = is.positive;
        divisor_limit = is.divisor_limit;
        need_limit = divided_need earlier false p.links divisor ms line is;
        price_limit = divided_prices earlier false p.links divisor ms line is;
        is = divided_is earlier false p.links divisor ms line is;
      },
      λ of. test.1 (terms_told earlier true p.links divisor ms line of).0,
    )

-- a plain table line over the line of a test
pub plain_told : (p : Case) (earlier : List Tested) (index : ℕ) (weights : List ℕ) (line : Inequality) (robust : Bool) → IsSoundAt earlier index
    → IsTableOver p (test_at earlier index).line Plain weights line → (IsTrue robust ↔ IsRobustAt earlier index)
    → IsTestedAs p earlier (inr (Table index Plain weights)) (held robust line)
plain_told p earlier index weights line robust sound is test =
    held_told p earlier (inr (Table index Plain weights)) line robust ((test_at earlier index).line, (sound.0, sound.1, refl), is)
    (λ made of. table_same p (test_at earlier index).line Plain weights made line (subst (λ over. IsTableOver p over Plain weights made) of.1.2 of.2) is)
    (λ yes. let there = test.0 yes in ((test_at earlier index).line, (there.0, there.1, refl), is), λ of. test.1 (of.1.0, of.1.1))

pub failing_told : (p : Case) (earlier : List Tested) (index : ℕ) (weights : List ℕ) (line : Inequality) → IsRobustAt earlier index
    → IsTableOver p (test_at earlier index).line Failing weights line
    → IsTestedAs p earlier (inr (Table index Failing weights)) (held false line)
failing_told p earlier index weights line robust is =
    held_told p earlier (inr (Table index Failing weights)) line false (refl, ((test_at earlier index).line, (robust.0, robust.1, refl), is))
    (λ made of. table_same p (test_at earlier index).line Failing weights made line (subst (λ over. IsTableOver p over Failing weights made) of.1.1.2 of.1.2) is)
    (λ no. absurd (false≢true no), λ of. absurd (false≢true (sym of.0)))

pub plain_refused : (p : Case) (earlier : List Tested) (index : ℕ) (weights : List ℕ) → ((made : Inequality) → IsSoundAt earlier index → IsTableOver p (test_at earlier index).line Plain weights made → ⊥)
    → IsTestedAs p earlier (inr (Table index Plain weights)) no_test
plain_refused p earlier index weights none =
    refused_told p earlier (inr (Table index Plain weights)) (λ made of. none made (of.1.0, of.1.1) (subst (λ over. IsTableOver p over Plain weights made) of.1.2 of.2))

pub failing_refused : (p : Case) (earlier : List Tested) (index : ℕ) (weights : List ℕ) → ((made : Inequality) → IsRobustAt earlier index → IsTableOver p (test_at earlier index).line Failing weights made → ⊥)
    → IsTestedAs p earlier (inr (Table index Failing weights)) no_test
failing_refused p earlier index weights none =
    refused_told p earlier (inr (Table index Failing weights)) (λ made of. none made (of.1.1.0, of.1.1.1) (subst (λ over. IsTableOver p over Failing weights made) of.1.1.2 of.1.2))

-- ---- what is told of a line that was made, or not

-- a divided line, made or not
pub divided_result : (p : Case) (earlier : List Tested) (divisor : ℕ) (ms : List Multiplier) (o : Option Inequality) (robust : Bool) (t : Tested)
    → MatchOption o ((made : Inequality) → IsDividedLine p.links (names_by earlier false) divisor ms made → ⊥) (IsDividedLine p.links (names_by earlier false) divisor ms)
    → (IsTrue robust ↔ All (λ m. IsRobustAt earlier m.cut) ms) → MatchOption o (t ≡ no_test) (λ line. t ≡ held robust line) → IsTestedAs p earlier (inr (Divided divisor ms)) t
divided_result p earlier divisor ms None robust t none test is =
    subst (λ (u : Tested). IsTestedAs p earlier (inr (Divided divisor ms)) u) (sym is) (refused_told p earlier (inr (Divided divisor ms)) none)
divided_result p earlier divisor ms (Some line) robust t made test is =
    subst (λ (u : Tested). IsTestedAs p earlier (inr (Divided divisor ms)) u) (sym is) (divided_told p earlier divisor ms line robust made test)

-- a plain table line, made or not
pub plain_result : (p : Case) (earlier : List Tested) (index : ℕ) (weights : List ℕ) (over : Inequality) (o : Option Inequality) (robust : Bool) (t : Tested) → IsSoundAt earlier index
    → over ≡ (test_at earlier index).line → MatchOption o ((made : Inequality) → IsTableOver p over Plain weights made → ⊥) (IsTableOver p over Plain weights)
    → (IsTrue robust ↔ IsRobustAt earlier index) → MatchOption o (t ≡ no_test) (λ line. t ≡ held robust line) → IsTestedAs p earlier (inr (Table index Plain weights)) t
plain_result p earlier index weights over None robust t sound its none test is =
    subst (λ (u : Tested). IsTestedAs p earlier (inr (Table index Plain weights)) u) (sym is)
    (plain_refused p earlier index weights (λ made _ of. none made (subst (λ l. IsTableOver p l Plain weights made) (sym its) of)))
plain_result p earlier index weights over (Some line) robust t sound its made test is =
    subst (λ (u : Tested). IsTestedAs p earlier (inr (Table index Plain weights)) u) (sym is)
    (plain_told p earlier index weights line robust sound (subst (λ l. IsTableOver p l Plain weights line) its made) test)

-- a failing table line, made or not
pub failing_result : (p : Case) (earlier : List Tested) (index : ℕ) (weights : List ℕ) (over : Inequality) (o : Option Inequality) (t : Tested) → IsRobustAt earlier index
    → over ≡ (test_at earlier index).line → MatchOption o ((made : Inequality) → IsTableOver p over Failing weights made → ⊥) (IsTableOver p over Failing weights)
    → MatchOption o (t ≡ no_test) (λ line. t ≡ held false line) → IsTestedAs p earlier (inr (Table index Failing weights)) t
failing_result p earlier index weights over None t robust its none is =
    subst (λ (u : Tested). IsTestedAs p earlier (inr (Table index Failing weights)) u) (sym is)
    (failing_refused p earlier index weights (λ made _ of. none made (subst (λ l. IsTableOver p l Failing weights made) (sym its) of)))
failing_result p earlier index weights over (Some line) t robust its made is =
    subst (λ (u : Tested). IsTestedAs p earlier (inr (Table index Failing weights)) u) (sym is)
    (failing_told p earlier index weights line robust (subst (λ l. IsTableOver p l Failing weights line) its made))
