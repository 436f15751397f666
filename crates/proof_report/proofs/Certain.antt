-- a plan that is known to be certified is so where the cuts of its certificate are shown
use Rattle.std.proofs.Common.{◌≡◌, ◌≢◌, ℕ, ◌*◌, ◌/◌, All, subst, sym}
use Rattle.net_core.proofs.Library.{∥∥₁_elim, props, dvd-mul_right, mul-div_cancel', ◌∣◌}
use Rattle.plan_terms.{specs.Terms.{Case, IsCut, raw_value, IsBound, IsGreatestDivisor, charges}, proofs.Bounds.divisor_unique}
use Rattle.plan_types.{specs.Terms.{IsCertifiedPlan, lines_of_certificate}, specs.declared.plan.Plan.Plan}
use Rattle.tree_search.proofs.Lemmas.{divisor_exists}

module _ (p : Case) (plan : Plan) (told : ∥ IsCertifiedPlan p plan ∥₁) where
  abbrev IsOwnBound : Type 0
  IsOwnBound = IsBound p.links (raw_value p.links (lines_of_certificate plan.certificate)) plan.certificate.den plan.bound

  abbrev divisor : (g : ℕ) × IsGreatestDivisor (charges p.links) g
  divisor = divisor_exists (charges p.links)

  same_divisor : (is : IsOwnBound) → is.divisor ≡ divisor.0
  same_divisor is = divisor_unique (charges p.links) is.divisor divisor.0 is.is_divisor divisor.1

  bound_multiple : divisor.0 * (plan.bound / divisor.0) ≡ plan.bound
  bound_multiple = ∥∥₁_elim told (hlevel props) (λ is. mul-div_cancel' divisor.0 (subst (λ g. g ∣ plan.bound) (same_divisor is.rounded) is.rounded.multiple))

  certain_bound : IsOwnBound
  certain_bound = record {
    divisor = divisor.0;
    is_divisor = divisor.1;
    multiple = subst (λ n. divisor.0 ∣ n) bound_multiple (dvd-mul_right divisor.0 (plan.bound / divisor.0));
    reaches = λ some. ∥∥₁_elim told (hlevel props) (λ is. is.rounded.reaches (subst (λ g. g ≢ 0) (sym (same_divisor is.rounded)) some));
    least = λ other divides reached. ∥∥₁_elim told (hlevel props)
        (λ is. is.rounded.least other (subst (λ g. g ∣ other) (sym (same_divisor is.rounded)) divides) reached);
  }

  pub certified_certain : All (λ l. IsCut p l.cut) (lines_of_certificate plan.certificate) → IsCertifiedPlan p plan
  certified_certain each = record {
    certificate = record {
      positive = ∥∥₁_elim told (hlevel props) (λ is. is.certificate.positive);
      den_limit = ∥∥₁_elim told (hlevel props) (λ is. is.certificate.den_limit);
      nums = ∥∥₁_elim told (hlevel props) (λ is. is.certificate.nums);
      asked_limit = ∥∥₁_elim told (hlevel props) (λ is. is.certificate.asked_limit);
      given_limit = ∥∥₁_elim told (hlevel props) (λ is. is.certificate.given_limit);
      each = each;
      priced = ∥∥₁_elim told (hlevel props) (λ is. is.certificate.priced);
    };
    raw = record {
      same = ∥∥₁_elim told (hlevel props) (λ is. is.raw.same);
      lowest = ∥∥₁_elim told (hlevel props) (λ is. is.raw.lowest);
    };
    rounded = certain_bound;
  }
