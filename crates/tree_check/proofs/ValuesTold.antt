-- the value of lines for a box, by the gains of its modules
use Rattle.std.proofs.Common.{◌≡◌, ℕ, ◌+◌, ◌*◌, ◌-◌, ◌<◌, ◌≤◌, ◌^◌, List, [], ◌∷◌, Option, None, Some, MatchOption, All, length, subst, sym, arith}
use Rattle.net_core.proofs.Library.{All-from_recursion, All-map, recursion_from_All, AllByRecursion}
use Rattle.line_check.{specs.Terms.{Multiplier, WeightedLine, test_at, weighed}, specs.declared.tested_lines.Tested.Tested}
use Rattle.plan_terms.specs.Terms.{IsBound}
use Rattle.tree_check.{specs.BoxValues.{AreNear, all_gains, all_losses, asked_right, certain_setups, given_free, value_gains, value_losses}, specs.declared.gains.Gains.Gains, specs.declared.weighing.Weighing.Weighing, specs.inner.Weighing.{AreGainsOf, IsValueIn, total_of}}

-- narrow numerators stay so
nums_weighed : (w : Weighing) → All (λ m. m.num < 2 ^ 62) w.lines.now → All (λ t. t.num < 2 ^ 62) (weighed w.tested.now w.lines.now)
nums_weighed w nums = All-map (λ (t : WeightedLine). t.num < 2 ^ 62) (λ (m : Multiplier). record { line = (test_at w.tested.now m.cut).line; num = m.num }) w.lines.now nums

own_by_recursion : (tested : List Tested) (ms : List Multiplier) → AllByRecursion (λ (t : WeightedLine). t.num < 2 ^ 62) (weighed tested ms) → AllByRecursion (λ (m : Multiplier). m.num < 2 ^ 62) ms
own_by_recursion tested [] all = tt
own_by_recursion tested (m ∷ ms) all = (all.0, own_by_recursion tested ms all.1)

-- and the other way round
pub nums_own : (w : Weighing) → All (λ t. t.num < 2 ^ 62) (weighed w.tested.now w.lines.now) → All (λ m. m.num < 2 ^ 62) w.lines.now
nums_own w nums =
    All-from_recursion (λ (m : Multiplier). m.num < 2 ^ 62) w.lines.now
    (own_by_recursion w.tested.now w.lines.now (recursion_from_All (λ (t : WeightedLine). t.num < 2 ^ 62) (weighed w.tested.now w.lines.now) nums))

module _ (w : Weighing) (s : Gains) (gains : AreGainsOf w (length w.links.now) s) where
  abbrev asked : ℕ
  asked = asked_right (weighed w.tested.now w.lines.now)

  abbrev given : ℕ
  given = given_free (weighed w.tested.now w.lines.now)

  -- all that adds, and all that is taken off
  pub gains_are : (up setups : ℕ) → setups ≡ w.den * certain_setups w.links.now w.boxed.now → up ≡ total_of s.gains + asked + setups → up ≡ value_gains w.links.now w.boxed.now w.den (weighed w.tested.now w.lines.now)
  gains_are up setups of is = omega (arith, is, of, gains.gains)

  pub losses_are : (down : ℕ) → down ≡ total_of s.losses + given → down ≡ value_losses w.links.now w.boxed.now w.den (weighed w.tested.now w.lines.now)
  losses_are down is = omega (arith, is, gains.losses)

  -- near sums of modules
  near_modules : AreNear (total_of s.gains) (total_of s.losses) → AreNear (all_gains w.links.now w.boxed.now w.den (weighed w.tested.now w.lines.now)) (all_losses w.links.now w.boxed.now w.den (weighed w.tested.now w.lines.now))
  near_modules near = record { above = omega (arith, near.above, gains.gains, gains.losses); under = omega (arith, near.under, gains.gains, gains.losses) }

  pub told_value : (up down value : ℕ) → 1 ≤ w.den → w.den < 2 ^ 72 → All (λ m. m.num < 2 ^ 62) w.lines.now → asked < 2 ^ 126 → given < 2 ^ 126
      → AreNear (total_of s.gains) (total_of s.losses)
      → up ≡ value_gains w.links.now w.boxed.now w.den (weighed w.tested.now w.lines.now) → down ≡ value_losses w.links.now w.boxed.now w.den (weighed w.tested.now w.lines.now)
      → AreNear up down → IsBound w.links.now (up - down) w.den value → IsValueIn w value
  told_value up down value positive narrow nums asked_low given_low near up_is down_is near_all bound = record {
    certificate = record {
      positive = positive;
      den_limit = narrow;
      nums = nums_weighed w nums;
      asked_limit = asked_low;
      given_limit = given_low;
      modules = gains.bounded;
      modules_limit = near_modules near;
      value_limit = subst (λ (a : ℕ). AreNear a (value_losses w.links.now w.boxed.now w.den (weighed w.tested.now w.lines.now))) up_is (subst (λ (b : ℕ). AreNear up b) down_is near_all);
    };
    rounded = subst (λ (a : ℕ). IsBound w.links.now (a - value_losses w.links.now w.boxed.now w.den (weighed w.tested.now w.lines.now)) w.den value) up_is (subst (λ (b : ℕ). IsBound w.links.now (up - b) w.den value) down_is bound);
  }

  -- sums that are far apart are no certificate's
  pub no_value : (up down value : ℕ) → up ≡ value_gains w.links.now w.boxed.now w.den (weighed w.tested.now w.lines.now) → down ≡ value_losses w.links.now w.boxed.now w.den (weighed w.tested.now w.lines.now)
      → (AreNear up down → ⊥) → IsValueIn w value → ⊥
  no_value up down value up_is down_is far is = far (subst (λ (a : ℕ). AreNear a down) (sym up_is) (subst (λ (b : ℕ). AreNear (value_gains w.links.now w.boxed.now w.den (weighed w.tested.now w.lines.now)) b) (sym down_is) is.certificate.value_limit))

  -- the value of near sums, and none of others
  pub value_is_told : (up down : ℕ) (o : Option ℕ) → 1 ≤ w.den → w.den < 2 ^ 72 → All (λ m. m.num < 2 ^ 62) w.lines.now → asked < 2 ^ 126 → given < 2 ^ 126
      → AreNear (total_of s.gains) (total_of s.losses)
      → up ≡ value_gains w.links.now w.boxed.now w.den (weighed w.tested.now w.lines.now) → down ≡ value_losses w.links.now w.boxed.now w.den (weighed w.tested.now w.lines.now)
      → MatchOption o (AreNear up down → ⊥) (λ v. AreNear up down × IsBound w.links.now (up - down) w.den v)
      → MatchOption o ((v : ℕ) → IsValueIn w v → ⊥) (IsValueIn w)
  value_is_told up down None positive narrow nums asked_low given_low near up_is down_is far = λ v. no_value up down v up_is down_is far
  value_is_told up down (Some v) positive narrow nums asked_low given_low near up_is down_is is =
      told_value up down v positive narrow nums asked_low given_low near up_is down_is is.0 is.1
