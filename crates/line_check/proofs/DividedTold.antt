-- divided lines of lines that were tested
use Rattle.std.proofs.Common.{◌≡◌, ℕ, ◌<◌, ◌^◌, Bool, List, [], ◌∷◌, All, IsTrue, length, refl, ap, subst, sym, ◌∙◌}
use Rattle.net_core.proofs.Library.{All-from_recursion, recursion_from_All, AllByRecursion}
use Rattle.master_bound.specs.declared.answer.Multiplier.{Multiplier}
use Rattle.plan_terms.specs.Terms.{Link}
use Rattle.line_check.{specs.Inequalities.{AreNamedBy, WeightedLine, module_number, module_price, summed_need}, specs.Lines.{IsDividedLine, divided_line, divided_up}, specs.Testing.{names_by, says, test_at, weighed}, specs.declared.inequality.Inequality.Inequality, specs.declared.tested_lines.Tested.Tested, specs.inner.Dividing.{AreDividedCoefs, KeepsLimits}}

pub same_weighted : (t : WeightedLine) (line : Inequality) (num : ℕ) → t.line ≡ line → t.num ≡ num → t ≡ record { line = line; num = num }
same_weighted t line num its own = ap (λ (l : Inequality). record { line = l; num = t.num }) its ∙ ap (λ (n : ℕ). record { line = line; num = n }) own

-- tests say so of the line of an index
abbrev pub IsSaidAt : List Tested → Bool → ℕ → Type 0
IsSaidAt tested robust i = (i < length tested) × IsTrue (says robust (test_at tested i))

module _ (tested : List Tested) (robust : Bool) where
  -- lines that are named by tests are the tested ones
  named_told : (ms : List Multiplier) (terms : List WeightedLine) → AreNamedBy (names_by tested robust) ms terms → AllByRecursion (λ m. IsSaidAt tested robust m.cut) ms × (terms ≡ weighed tested ms)
  named_told [] [] named = (tt, refl)
  named_told [] (t ∷ ts) named = absurd named
  named_told (m ∷ ms) [] named = absurd named
  named_told (m ∷ ms) (t ∷ ts) named =
      let rest = named_told ms ts named.1 in
      let head : t ≡ record { line = (test_at tested m.cut).line; num = m.num } = same_weighted t (test_at tested m.cut).line m.num named.0.0.2 (sym named.0.1) in (
        ((named.0.0.0, named.0.0.1), rest.0),
        ap (λ (x : WeightedLine). x ∷ ts) head ∙ ap (λ (xs : List WeightedLine). record { line = (test_at tested m.cut).line; num = m.num } ∷ xs) rest.1,
      )

  told_named : (ms : List Multiplier) → AllByRecursion (λ m. IsSaidAt tested robust m.cut) ms → AreNamedBy (names_by tested robust) ms (weighed tested ms)
  told_named [] said = tt
  told_named (m ∷ ms) said = (((said.0.0, said.0.1, refl), refl), told_named ms said.1)

  -- the terms of a divided line are the tested ones
  pub terms_told : (links : List Link) (divisor : ℕ) (ms : List Multiplier) (made : Inequality) (is : IsDividedLine links (names_by tested robust) divisor ms made)
      → All (λ m. IsSaidAt tested robust m.cut) ms × (is.terms ≡ weighed tested ms)
  terms_told links divisor ms made is =
      let told = named_told ms is.terms is.named in
      (All-from_recursion (λ m. IsSaidAt tested robust m.cut) ms told.0, told.1)

  pub named_all : (ms : List Multiplier) → All (λ m. IsSaidAt tested robust m.cut) ms → AreNamedBy (names_by tested robust) ms (weighed tested ms)
  named_all ms said = told_named ms (recursion_from_All (λ m. IsSaidAt tested robust m.cut) ms said)

  -- there is but one divided line of tested lines
  pub divided_is : (links : List Link) (divisor : ℕ) (ms : List Multiplier) (made : Inequality) → IsDividedLine links (names_by tested robust) divisor ms made
      → made ≡ divided_line links divisor (weighed tested ms)
  divided_is links divisor ms made is = is.is ∙ ap (λ ts. divided_line links divisor ts) (terms_told links divisor ms made is).1

  pub divided_need : (links : List Link) (divisor : ℕ) (ms : List Multiplier) (made : Inequality) → IsDividedLine links (names_by tested robust) divisor ms made → summed_need (weighed tested ms) < 2 ^ 126
  divided_need links divisor ms made is = subst (λ ts. summed_need ts < 2 ^ 126) (terms_told links divisor ms made is).1 is.need_limit

  pub divided_prices : (links : List Link) (divisor : ℕ) (ms : List Multiplier) (made : Inequality) → IsDividedLine links (names_by tested robust) divisor ms made
      → (e m : ℕ) → e < length links → m < module_number links e → module_price (weighed tested ms) e m < 2 ^ 126
  divided_prices links divisor ms made is e m here inside = subst (λ ts. module_price ts e m < 2 ^ 126) (terms_told links divisor ms made is).1 (is.price_limit e m here inside)

  -- the divided line of lines of which tests say so
  pub divided_made : (links : List Link) (divisor : ℕ) (ms : List Multiplier) (coefs : List (List ℕ)) (made : Inequality) → KeepsLimits divisor ms → All (λ m. IsSaidAt tested robust m.cut) ms
      → summed_need (weighed tested ms) < 2 ^ 126 → AreDividedCoefs links (weighed tested ms) (summed_need (weighed tested ms)) divisor (length links) coefs
      → made ≡ record { coefs = coefs; given = 0; right = divided_up (summed_need (weighed tested ms)) divisor }
      → IsDividedLine links (names_by tested robust) divisor ms made
  divided_made links divisor ms coefs made limits said low are own = record {
    terms = weighed tested ms;
    named = named_all ms said;
    some = limits.some;
    few = limits.few;
    nums = limits.nums;
    positive = limits.positive;
    divisor_limit = limits.divisor_limit;
    need_limit = low;
    price_limit = are.fit;
    is = own ∙ ap (λ (table : List (List ℕ)). record { coefs = table; given = 0; right = divided_up (summed_need (weighed tested ms)) divisor }) are.is;
  }
