use Rattle.std.proofs.Common.{All, IfSome, subst, sym}
use Rattle.net_core.proofs.Library.{All-push}
use Rattle.plan_terms.specs.Terms.{IsCut, case_of}
use Rattle.able_counts.proofs.able_test.AbleTest.know.Goals as goal

pub returns-in_ok-push-clause-sound : goal.returns-in_ok-push-clause-sound
returns-in_ok-push-clause-sound c =
    let p = case_of c.args.instance.now in
    let was = c.requires.sound in
    let is = subst (λ o. IfSome o (IsCut p)) c.in-Some.is c.in_ok-line.ensures in
    record {
      cuts = subst (All (IsCut p)) (sym c.in_ok-push.ensures.ok) (All-push (IsCut p) c.args.self.now.cuts c.in-Some.line was.cuts is);
      states = was.states;
      each = was.each;
    }
