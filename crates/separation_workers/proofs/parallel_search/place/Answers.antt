use Rattle.std.{proofs.Common.{IfSome, subst, sym}, proofs.lemmas.List.Elements.All-set}
use Rattle.separation_workers.specs.inner.Rounds.{IsStateFound}
use Rattle.separation_workers.proofs.parallel_search.place.Goals as goal

pub returns-then-at-places : goal.returns-then-at-places
returns-then-at-places c =
    All-set (λ place. IfSome place (IsStateFound c.args.round.now)) c.args.places.now c.args.found.state.0 c.replace.new.self
    (subst (λ place. IfSome place (IsStateFound c.args.round.now)) (sym c.replace.ensures.after) c.requires.found) c.requires.before
