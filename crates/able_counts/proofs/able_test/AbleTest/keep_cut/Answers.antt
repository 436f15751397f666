use Rattle.std.proofs.Common.{All, sym, subst}
use Rattle.net_core.proofs.Library.{All-push}
use Rattle.plan_terms.specs.Terms.{case_of, IsCut}
use Rattle.able_counts.specs.AbleTests.{IsStopAt}
use Rattle.able_counts.proofs.able_test.AbleTest.keep_cut.Goals as goal

pub returns-in_ok-push-in-Cut-clause-sound : goal.returns-in_ok-push-in-Cut-clause-sound
returns-in_ok-push-in-Cut-clause-sound c =
    let p = case_of c.args.instance.now in
    let stops = subst (IsStopAt p c.args.caps.now) c.in-Cut.is c.requires.stop in
    record {
      cuts =
          let is : IsCut p c.in_ok-copy-in-Cut.field-0 = subst (IsCut p) (sym c.in_ok-copy-in-Cut.ensures) stops.0 in
          subst (All (IsCut p)) (sym c.in_ok-push-in-Cut.ensures.ok) (All-push (IsCut p) c.args.self.now.cuts c.in_ok-copy-in-Cut.field-0 c.requires.sound.cuts is);
      states = c.requires.sound.states;
      each = c.requires.sound.each;
    }
