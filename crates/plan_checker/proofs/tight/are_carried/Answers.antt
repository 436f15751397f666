use Rattle.std.proofs.Common.{Option, IfNone, refl, subst}
use Rattle.net_core.proofs.Library.{false≢true}
use Rattle.plan_terms.specs.Terms.{case_of}
use Rattle.plan_checker.{specs.Carried.{IsOverloaded, IsUncarried}, specs.inner.Routes.FollowPaths, specs.declared.place.Place.Place, proofs.Carrying.{carried_by, not_over, not_unmet}, proofs.Firsts.{none_pair, some_pair}}
use Rattle.plan_checker.proofs.tight.are_carried.Goals as goal

pub returns-in-Some-unmet : goal.returns-in-Some-unmet
returns-in-Some-unmet c = let p = case_of c.args.instance.now in (
  λ t. absurd (false≢true t),
  λ h. absurd (not_unmet p c.args.scale c.args.nums.now c.args.routings.now c.requires.form h _ _ (some_pair (IsUncarried p c.args.scale c.args.routings.now) _ _ c.in-Some-unmet.is c.in_ok-unmet.ensures)),
)

pub returns-in-Some-over : goal.returns-in-Some-over
returns-in-Some-over c = let p = case_of c.args.instance.now in (
  λ t. absurd (false≢true t),
  λ h. absurd (not_over p c.args.scale c.args.nums.now c.args.routings.now c.requires.form h _ _ (some_pair (IsOverloaded c.args.nums.now c.args.routings.now) _ _ c.in-Some-over.is c.in_ok-over.ensures)),
)

pub returns-in-None : goal.returns-in-None
returns-in-None c = let p = case_of c.args.instance.now in (
  λ t. carried_by p c.args.scale c.args.nums.now c.args.routings.now c.requires.form c.requires.count
      (subst (λ (o : Option Place). IfNone o (FollowPaths p c.args.routings.now)) c.in_default.is c.in_ok-astray.ensures.paths)
      (none_pair (IsUncarried p c.args.scale c.args.routings.now) _ c.in_default-unmet.is c.in_ok-unmet.ensures)
      (none_pair (IsOverloaded c.args.nums.now c.args.routings.now) _ c.in-None.is c.in_ok-over.ensures),
  λ h. refl,
)
