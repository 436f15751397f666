use Rattle.std.proofs.Common.{IfSome, None, subst, sym}
use Rattle.net_core.proofs.Library.{All-push}
use Rattle.separation_workers.specs.inner.Rounds.{AreFound, IsStateFound}
use Rattle.separation_workers.proofs.parallel_search.no_places.Goals as goal

pub loop-preserved : goal.loop-preserved
loop-preserved c =
    subst (AreFound c.args.round.now) (sym c.in_ok-push.ensures.ok)
    (All-push (λ place. IfSome place (IsStateFound c.args.round.now)) c.loop.places None c.loop.invariant tt)
