-- unit pairs are one, and no greater than the module that they come from
use Rattle.std.proofs.Common.{ℕ, pos, ◌^◌, ◌≡◌, ◌*◌, ◌<◌, ◌≤◌, List, unsigned_abs, ap, subst, arith, All}
use Rattle.net_core.proofs.Library.{ints, le_of_mul-le-mul_left}
use Rattle.plan_terms.specs.Terms.{IsModule, Module, IsLowest, HasLeastUnitCost, IsUnitPair}
use Rattle.checked_fraction.proofs.Once.{reduced_once}
use Rattle.module_prices.{proofs.UnitCosts.cheapest_sound, proofs.LowestTerms.{as_row, lowest_small}}

-- a fraction has one form in lowest terms
pub lowest_once : (a b c d e f : ℕ) → 0 < b → IsLowest a b c d → IsLowest a b e f → (c ≡ e) × (d ≡ f)
lowest_once a b c d e f some first second =
    let once = reduced_once 1 (λ k. pos a) (pos b) (λ k. pos c) (pos d) (λ k. pos e) (pos f) (omega (arith, ints, some)) (as_row a b c d some first) (as_row a b e f some second) in
    (ap unsigned_abs (once.1 0 (omega arith)), ap unsigned_abs once.0)

-- modules that cost as much per capacity
module _ (modules : List Module) (sound : All IsModule modules) where
  alike : (a b : Module) → HasLeastUnitCost modules a → HasLeastUnitCost modules b → a.cost * b.capacity ≤ b.cost * a.capacity
  alike a b first second = subst (λ (m : Module). a.cost * m.capacity ≤ m.cost * a.capacity) second.one.2 (first.least second.one.0 b second.one.1)

  same_ratio : (a b : Module) (k c : ℕ) → 0 < b.capacity → a.cost * b.capacity ≡ b.cost * a.capacity → IsLowest b.cost b.capacity k c → IsLowest a.cost a.capacity k c
  same_ratio a b k c some cross low = record {
    same = cancel (omega (arith, ap (λ x. x * c) cross, ap (λ x. x * a.capacity) low.same));
    lowest = low.lowest;
  }
    where
      cancel : b.capacity * (a.cost * c) ≡ b.capacity * (k * a.capacity) → a.cost * c ≡ k * a.capacity
      cancel e =
          let le : a.cost * c ≤ k * a.capacity = le_of_mul-le-mul_left (let h : b.capacity * (a.cost * c) ≤ b.capacity * (k * a.capacity) = omega (arith, e) in h) some in
          let ge : k * a.capacity ≤ a.cost * c = le_of_mul-le-mul_left (let h : b.capacity * (k * a.capacity) ≤ b.capacity * (a.cost * c) = omega (arith, e) in h) some in
          omega (arith, le, ge)

  -- a link has one unit pair
  pub pair_once : (capacity cost other_capacity other_cost : ℕ) → IsUnitPair modules capacity cost → IsUnitPair modules other_capacity other_cost → (cost ≡ other_cost) × (capacity ≡ other_capacity)
  pair_once capacity cost other_capacity other_cost first second =
      let a = first.cheapest in
      let b = second.cheapest in
      let a_sound = cheapest_sound modules a sound first.least in
      let b_sound = cheapest_sound modules b sound second.least in
      let cross : a.cost * b.capacity ≡ b.cost * a.capacity = omega (arith, alike a b first.least second.least, alike b a second.least first.least) in
      lowest_once a.cost a.capacity cost capacity other_cost other_capacity a_sound.carries first.lowest (same_ratio a b other_cost other_capacity b_sound.carries cross second.lowest)

  -- which costs no more than the module
  pub pair_small : (capacity cost : ℕ) → IsUnitPair modules capacity cost → cost < 2 ^ 40
  pair_small capacity cost pair =
      let sound_one = cheapest_sound modules pair.cheapest sound pair.least in
      omega (arith, lowest_small pair.cheapest.cost pair.cheapest.capacity cost capacity sound_one.carries pair.lowest, sound_one.cost)
