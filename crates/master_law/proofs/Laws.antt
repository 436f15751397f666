-- what the best certificate of some cuts rests on
use Rattle.std.proofs.Common.{ℕ, ◌-◌, ◌*◌, ◌≤◌, ◌<◌, refl, arith, pos, ◌<ℤ◌}
use Rattle.net_core.proofs.Library.{ints}
use Rattle.plan_terms.specs.Terms.{fixed_along, raw_value}
use Rattle.master_law.{specs.Laws.{BasisLinesCertify, BoundRises, LeastShareViolatesNone, NoCertificateIsGreater, RawValueIsShareCost}, proofs.Certified.{modules_priced, raw_is_cost, raw_is_gained}, proofs.Greatest.greatest_raw, proofs.Own.{own_raw, bound_rises}, proofs.Shares.least_violates_none}

pub least_share_violates_none : LeastShareViolatesNone
least_share_violates_none = least_violates_none

pub basis_lines_certify : BasisLinesCertify
basis_lines_certify p pairs cuts den lines duals duals_den sound units a each den_limit nums asked_limit given_limit = record {
  positive = some den a.optimum.positive;
  den_limit = den_limit;
  nums = nums;
  asked_limit = asked_limit;
  given_limit = given_limit;
  each = each;
  priced = modules_priced p.links pairs cuts a.basis a.amounts den duals duals_den a.optimum lines a.of_basis sound units;
}
  where
    some : (n : ℕ) → pos 0 <ℤ pos n → 1 ≤ n
    some n h = omega (arith, ints, h)

pub raw_value_is_share_cost : RawValueIsShareCost
raw_value_is_share_cost links pairs cuts den lines duals share count a units = raw_is_cost links pairs cuts a.basis a.amounts den duals (pos share.scale) a.optimum lines a.of_basis share count refl units

pub own_bound_at_most : BoundRises
own_bound_at_most links pairs cuts cut den lines duals duals_den bound own sound units a held is small =
    let raw = raw_value links lines in
    let gained = raw_is_gained links pairs cuts a.basis a.amounts den duals duals_den a.optimum lines a.of_basis in
    let low = own_raw links pairs cuts sound units cut held small.num small.den small.multiplier.valid a.basis (λ j. pos (a.amounts j)) den duals duals_den raw a.optimum gained.1 in
    bound_rises links (small.num * (cut.right - fixed_along cut.lengths links)) small.den raw den bound own (some den a.optimum.positive) low is small.rounded
  where
    some : (n : ℕ) → pos 0 <ℤ pos n → 0 < n
    some n h = omega (arith, ints, h)

pub no_certificate_is_greater : NoCertificateIsGreater
no_certificate_is_greater = greatest_raw
