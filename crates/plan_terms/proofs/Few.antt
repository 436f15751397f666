-- a path has fewer links than there are nodes
use Rattle.std.proofs.Common.{◌≡◌, ◌≢◌, ℕ, zero, suc, ◌+◌, ◌<◌, ◌≤◌, List, [], ◌∷◌, length, ⊎_elim, refl, subst, arith}
use Rattle.net_core.{proofs.Library.{cases_eq, AllByRecursion}, specs.declared.ids.LinkId.LinkId}
use Rattle.plan_terms.specs.Paths.{AreDifferent, IsPath, Leads}

-- different numbers below n, as many as in xs but for one at most, and each of them from xs
record LosesOne (n : ℕ) (xs : List ℕ) : Type 0 where
  pub left : List ℕ
  pub below : AllByRecursion (λ x. x < n) left
  pub different : AreDifferent left
  pub from : (y : ℕ) → AllByRecursion (λ x. y ≢ x) xs → AllByRecursion (λ x. y ≢ x) left
  pub size : length xs ≤ length left + 1

other_below : (n : ℕ) (xs : List ℕ) → AllByRecursion (λ x. x < suc n) xs → AllByRecursion (λ x. n ≢ x) xs → AllByRecursion (λ x. x < n) xs
other_below n [] all others = tt
other_below n (x ∷ xs) all others = (omega (arith, all.0, others.0), other_below n xs all.1 others.1)

loses_one : (n : ℕ) (xs : List ℕ) → AllByRecursion (λ x. x < suc n) xs → AreDifferent xs → LosesOne n xs
loses_one n [] all different = record { left = []; below = tt; different = tt; from = λ y h. tt; size = omega arith }
loses_one n (x ∷ xs) all different =
    ⊎_elim
    (λ same. record {
      left = xs;
      below = other_below n xs all.1 (subst (λ k. AllByRecursion (λ y. k ≢ y) xs) same different.0);
      different = different.1;
      from = λ y h. h.1;
      size = omega arith;
    })
    (λ ne.
    let l = loses_one n xs all.1 different.1 in
    record {
      left = x ∷ l.left;
      below = (omega (arith, all.0, ne), l.below);
      different = (l.from x different.0, l.different);
      from = λ y h. (h.0, l.from y h.1);
      size = omega (arith, l.size);
    })
    (cases_eq x n)

-- no more than n different numbers are below n
pub few_different : (n : ℕ) (xs : List ℕ) → AllByRecursion (λ x. x < n) xs → AreDifferent xs → length xs ≤ n
few_different zero [] all different = omega arith
few_different zero (x ∷ xs) all different = omega (arith, all.0)
few_different (suc n) xs all different =
    let l = loses_one n xs all different in
    omega (arith, l.size, few_different n l.left l.below l.different)

led_below : (joins : ℕ → ℕ → ℕ → Type 0) (n : ℕ) → ((e x y : ℕ) → joins e x y → y < n) → (a : ℕ) (es : List LinkId) (cs : List ℕ) → Leads joins a es cs → AllByRecursion (λ x. x < n) cs × (length es ≡ length cs)
led_below joins n inside a [] [] leads = (tt, refl)
led_below joins n inside a (e ∷ es) (c ∷ cs) leads =
    let rest = led_below joins n inside c es cs leads.1 in
    ((inside e.0 a c leads.0, rest.0), omega (arith, rest.1))
led_below joins n inside a [] (c ∷ cs) leads = absurd leads
led_below joins n inside a (e ∷ es) [] leads = absurd leads

pub path_few : (joins : ℕ → ℕ → ℕ → Type 0) (n : ℕ) → ((e x y : ℕ) → joins e x y → y < n) → (a b : ℕ) → a < n → (es : List LinkId) → IsPath joins a b es → length es < n
path_few joins n inside a b lt es path =
    let led = led_below joins n inside a es path.0 path.1 in
    omega (arith, led.1, few_different n (a ∷ path.0) (lt, led.0) path.3)
