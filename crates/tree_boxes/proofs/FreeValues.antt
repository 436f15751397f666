-- the certificate of no lines has a value where no least count is large
use Rattle.std.{proofs.Common.{◌≡◌, ◌≢◌, ℕ, zero, suc, ◌+◌, ◌-◌, ◌*◌, ◌%◌, ◌^◌, ◌≤◌, ◌<◌, Bool, true, false, if◌then◌else◌, List, [], ◌∷◌, All, ⊎_elim, get_or, length, map, refl, ap, arith, slice_index, subst, unwrap_or, mul-le-mul_left, mul-le-mul_right}, specs.Int.div_ceil}
use Rattle.net_core.proofs.Library.{All-nil, IsGcd, IsGcd-from_mod, IsGcd-from_zero, cases_eq, recursion_from_All, mod_below, AllByRecursion}
use Rattle.module_prices.proofs.Divisors.{rounded_up}
use Rattle.plan_terms.{proofs.Bounds.{bound_free, bound_rounded, bound_unique, divisor_both, divisor_none, divisor_one}, specs.Terms.{IsBound, IsGreatestDivisor, IsModule, Link, Module, charges, sum_below}}
use Rattle.tree_check.{specs.Terms.{any_count, span_at, HasBoxValue, IsBoxCertificate, all_gains, all_losses, certain_setup, certain_setups, module_charge, module_costs, module_gain, module_loss, value_gains, value_losses, TreeBox, Inequality}, specs.declared.boxes.Span.Span}
use Rattle.line_check.specs.Terms.{WeightedLine, entry, module_number, over_modules}
use Rattle.tree_boxes.{specs.Causes.HasFreeValue, specs.Finds.AreLow}

-- ---- each value has a bound

-- two numbers have a greatest common divisor (Euclid)
gcd_exists : (n a b : ℕ) → b ≤ n → (g : ℕ) × IsGcd a b g
gcd_exists zero a b le = (a, IsGcd-from_zero a b (omega (arith, le)))
gcd_exists (suc n) a b le = ⊎_elim
    (λ (none : b ≡ 0). (a, IsGcd-from_zero a b none))
    (λ (some : b ≢ 0).
    let less : a % b < b = mod_below a b (omega (arith, some)) in
    let rest = gcd_exists n b (a % b) (omega (arith, le, less)) in
    (rest.0, IsGcd-from_mod a b rest.0 rest.1))
    (cases_eq b 0)

pub divisor_exists : (xs : List ℕ) → (g : ℕ) × IsGreatestDivisor xs g
divisor_exists [] = (0, divisor_none)
divisor_exists (x ∷ xs) =
    let rest = divisor_exists xs in
    let both = gcd_exists rest.0 x rest.0 (omega arith) in
    (both.0, divisor_both (x ∷ []) xs x rest.0 both.0 (divisor_one x) rest.1 both.1)

bound_exists : (links : List Link) (num den : ℕ) → 0 < den → (bound : ℕ) × IsBound links num den bound
bound_exists links num den some =
    let divisor = divisor_exists (charges links) in
    let g = divisor.0 in
    ⊎_elim
    (λ (none : g ≡ 0). (0, bound_free links num den (subst (IsGreatestDivisor (charges links)) none divisor.1)))
    (λ (positive : g ≢ 0).
    let once : ℕ = div_ceil num den in
    let count : ℕ = div_ceil once g in
    let up = rounded_up num den g once count some (omega (arith, positive)) refl refl in
    (g * count, bound_rounded links num den g count (omega (arith, positive)) divisor.1 up.0 up.1))
    (cases_eq g 0)

-- ---- sums of numbers in their limits

few_below : (n k : ℕ) (f : ℕ → ℕ) → ((i : ℕ) → i < n → f i ≤ k) → sum_below n f ≤ n * k
few_below zero k f low = omega arith
few_below (suc n) k f low = omega (arith, few_below n k f (λ i lt. low i (omega (arith, lt))), low n (omega arith))

-- a link within its limits
abbrev IsSoundLink : Link → Type 0
IsSoundLink l = (length l.modules ≤ 16) × (l.setup < 2 ^ 40) × All IsModule l.modules

few_modules : (links : List Link) (e : ℕ) → AllByRecursion IsSoundLink links → module_number links e ≤ 16
few_modules [] e sound = omega arith
few_modules (l ∷ ls) zero sound = sound.0.0
few_modules (l ∷ ls) (suc e) sound = few_modules ls e sound.1

low_setup : (links : List Link) (e : ℕ) → AllByRecursion IsSoundLink links → slice_index (map (λ l. l.setup) links) e ≤ 2 ^ 40
low_setup [] e sound = omega arith
low_setup (l ∷ ls) zero sound = omega (arith, sound.0.1)
low_setup (l ∷ ls) (suc e) sound = low_setup ls e sound.1

low_price : (modules : List Module) (m : ℕ) → AllByRecursion IsModule modules → slice_index (map (λ x. x.cost) modules) m ≤ 2 ^ 40
low_price [] m sound = omega arith
low_price (x ∷ ms) zero sound = omega (arith, sound.0.cost)
low_price (x ∷ ms) (suc m) sound = low_price ms m sound.1

low_cost : (links : List Link) (e m : ℕ) → AllByRecursion IsSoundLink links → entry (module_costs links) e m ≤ 2 ^ 40
low_cost [] e m sound = omega arith
low_cost (l ∷ ls) zero m sound = low_price l.modules m (recursion_from_All IsModule l.modules sound.0.2)
low_cost (l ∷ ls) (suc e) m sound = low_cost ls e m sound.1

low_span : (n : ℕ) (spans : List Span) (m : ℕ) → AllByRecursion (λ s. s.least ≤ 2 ^ 44 + n) spans → (get_or spans m any_count).least ≤ 2 ^ 44 + n
low_span n [] m low = omega arith
low_span n (s ∷ ss) zero low = low.0
low_span n (s ∷ ss) (suc m) low = low_span n ss m low.1

low_at : (n : ℕ) (box : TreeBox) (e m : ℕ) → AllByRecursion (All (λ s. s.least ≤ 2 ^ 44 + n)) box → (span_at box e m).least ≤ 2 ^ 44 + n
low_at n [] e m low = omega arith
low_at n (ss ∷ box) zero m low = low_span n ss m (recursion_from_All (λ (s : Span). s.least ≤ 2 ^ 44 + n) ss low.0)
low_at n (ss ∷ box) (suc e) m low = low_at n box e m low.1

low_choice : (test : Bool) (n k : ℕ) → n ≤ k → (if test then n else 0) ≤ k
low_choice true n k le = le
low_choice false n k le = omega arith

-- ---- the certificate of no lines

module _ (links : List Link) (few : length links ≤ 256) (sound : All IsSoundLink links) (box : TreeBox) (low : AreLow (2 ^ 14) box) where
  each_sound : AllByRecursion IsSoundLink links
  each_sound = recursion_from_All IsSoundLink links sound

  low_gain : (e m : ℕ) → module_gain links box 1 [] e m ≤ 2 ^ 40 * 2 ^ 45
  low_gain e m =
      let cost : module_charge links 1 e m - 0 ≤ 2 ^ 40 = omega (arith, low_cost links e m each_sound) in
      let least : (span_at box e m).least ≤ 2 ^ 45 = omega (arith, low_at (2 ^ 14) box e m (recursion_from_All (All (λ (s : Span). s.least ≤ 2 ^ 44 + 2 ^ 14)) box low)) in
      let by_cost : (module_charge links 1 e m - 0) * (span_at box e m).least ≤ 2 ^ 40 * (span_at box e m).least = mul-le-mul_right (span_at box e m).least cost in
      let by_least : 2 ^ 40 * (span_at box e m).least ≤ 2 ^ 40 * 2 ^ 45 = mul-le-mul_left (2 ^ 40) least in
      omega (arith, by_cost, by_least)

  low_loss : (e m : ℕ) → module_loss links box 1 [] e m ≤ 0
  low_loss e m =
      let none : 0 - module_charge links 1 e m ≡ 0 = omega arith in
      omega (arith, ap (λ i. i * unwrap_or (span_at box e m).most 0) none)

  limited : (f : ℕ → ℕ → ℕ) (k : ℕ) → ((e m : ℕ) → f e m ≤ k) → over_modules links f ≤ 256 * (16 * k)
  limited f k each =
      let link : (e : ℕ) → sum_below (module_number links e) (f e) ≤ 16 * k = λ e.
      omega (arith, few_below (module_number links e) k (f e) (λ m lt. each e m), mul-le-mul_right k (few_modules links e each_sound)) in
      omega (arith, few_below (length links) (16 * k) (λ e. sum_below (module_number links e) (f e)) (λ e lt. link e), mul-le-mul_right (16 * k) few)

  gains_limit : all_gains links box 1 [] ≤ 256 * (16 * (2 ^ 40 * 2 ^ 45))
  gains_limit = limited (module_gain links box 1 []) (2 ^ 40 * 2 ^ 45) low_gain

  losses_limit : all_losses links box 1 [] ≤ 256 * (16 * 0)
  losses_limit = limited (module_loss links box 1 []) 0 low_loss

  setups_limit : certain_setups links box ≤ 256 * 2 ^ 40
  setups_limit =
      omega (
        arith,
        few_below (length links) (2 ^ 40) (certain_setup links box) (λ e lt. low_choice _ (slice_index (map (λ l. l.setup) links) e) (2 ^ 40) (low_setup links e each_sound)),
        mul-le-mul_right (2 ^ 40) few,
      )

  free_certificate : IsBoxCertificate links box 1 []
  free_certificate = record {
    positive = omega arith;
    den_limit = omega arith;
    nums = All-nil (λ (t : WeightedLine). t.num < 2 ^ 62);
    asked_limit = omega arith;
    given_limit = omega arith;
    modules = λ e m le lm. record {
      bounded = λ (lt : module_charge links 1 e m < 0). absurd (omega (arith, lt));
      price_limit = omega arith;
      gain_limit = omega (arith, low_gain e m);
      loss_limit = omega (arith, low_loss e m);
    };
    modules_limit = record { above = omega (arith, gains_limit); under = omega (arith, losses_limit) };
    value_limit = record { above = omega (arith, gains_limit, setups_limit); under = omega (arith, losses_limit) };
  }

  pub free_value : (value : ℕ) × HasFreeValue links box value
  free_value =
      let bound = bound_exists links (value_gains links box 1 [] - value_losses links box 1 []) 1 (omega arith) in
      (bound.0, record { certificate = free_certificate; rounded = bound.1 })

-- there is one such value
pub free_once : (links : List Link) (box : TreeBox) (a b : ℕ) → HasFreeValue links box a → HasFreeValue links box b → a ≡ b
free_once links box a b one other =
    let raw : ℕ = value_gains links box 1 [] - value_losses links box 1 [] in
    bound_unique links raw 1 raw 1 a b (omega arith) (omega arith) refl one.rounded other.rounded

module _ (names : ℕ → Inequality → Type 0) (links : List Link) (box : TreeBox) (value : ℕ) where
  pub free_has_value : HasFreeValue links box value → HasBoxValue names links box (record { den = 1; lines = [] }) value
  free_has_value is = record { terms = []; named = tt; is = is }
