use Rattle.std.proofs.Common.{List, Some, ◌≡◌, slice_get, subst, sym}
use Rattle.plan_terms.specs.Terms.{case_of, Routing, capacities}
use Rattle.plan_report.specs.Terms.{known_to, AreRoutingsInForm}
use Rattle.module_choice.proofs.Pairs.{capacities_long}
use Rattle.plan_checker.{proofs.Carrying.carries_by, proofs.Firsts.on_ok}
use Rattle.plan_checker.proofs.plan.check_own.Goals as goal

pub returns-clause-sound : goal.returns-clause-sound
returns-clause-sound c =
    let p = case_of c.args.instance.now in
    let plan = c.args.plan.now in
    let lent = c.items.result.now in
    let nums = capacities p.links plan.counts in
    let own = subst (λ ds. AreRoutingsInForm (known_to p) ds plan.routings) c.requires.demands c.requires.form.routings in
    let form = subst (AreRoutingsInForm (known_to p) p.demands) (sym c.items.ensures) own in
    let found = c.in_ok-check_routings.ensures in
    on_ok c.check_tight.result (record {
      carrying = record {
        states = own.long;
        each = λ s r at. carries_by p 1 nums lent (capacities_long p.links plan.counts c.requires.form.counts) form found.paths found.met found.within s r
            (subst (λ (rs : List Routing). slice_get rs s ≡ Some r) (sym c.items.ensures) at);
      };
      costed = c.in_ok-check_cost.ensures.costed;
      certified = c.in_ok-check_certificate.ensures.certified;
    })
