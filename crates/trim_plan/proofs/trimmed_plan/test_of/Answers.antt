use Rattle.std.proofs.Common.{◌≡◌, ◌∙◌, List, Some, slice_get, subst, sym}
use Rattle.plan_terms.specs.Terms.{Routing, case_of, capacities}
use Rattle.able_counts.specs.AbleTests.{AreRoutingsWithin}
use Rattle.trim_plan.proofs.Plans.{plan_routings}
use Rattle.trim_plan.proofs.trimmed_plan.test_of.Goals as goal

pub new-requires-clause-each : goal.new-requires-clause-each
new-requires-clause-each c s r at =
    let p = case_of c.args.instance.now in
    let plan = c.args.plan.now in
    let within = plan_routings p plan c.requires.demands c.requires.routed in
    record {
      nums = capacities p.links plan.counts;
      within = within.each s r (subst (λ (rs : List Routing). slice_get rs s ≡ Some r) c.in_ok-copy.ensures at);
    }

pub returns-in-Ok : goal.returns-in-Ok
returns-in-Ok c =
    let p = case_of c.args.instance.now in
    let plan = c.args.plan.now in
    record {
      shape = c.requires.routed.form.counts;
      limits = c.requires.routed.form.limits;
      test = c.know_certificate.ensures.sound;
      routings = subst (AreRoutingsWithin p (capacities p.links plan.counts)) (sym (c.know_certificate.ensures.routings ∙ (c.in_ok-test.ensures.routings ∙ c.in_ok-copy.ensures))) (plan_routings p plan c.requires.demands c.requires.routed);
    }
