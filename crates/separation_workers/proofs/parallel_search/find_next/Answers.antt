use Rattle.std.proofs.Common.{[], ◌∷◌, ◌++◌, arith}
use Rattle.net_core.proofs.Library.{All-push, All-same}
use Rattle.separation_workers.{specs.declared.round.StateFound.StateFound, specs.inner.Rounds.IsStateFound}
use Rattle.separation_workers.proofs.parallel_search.find_next.Goals as goal

pub find_or_stop-requires : goal.find_or_stop-requires
find_or_stop-requires c = omega (arith, c.in-Some.ensures, c.requires.end)

pub returns : goal.returns
returns c =
    let found = IsStateFound c.args.round.now in
    let before = c.args.found.now.items in
    let one : StateFound = record { state = c.in-Some.state; answer = c.in_ok-answer.answer } in
    All-same found c.push.new.self.items (before ++ one ∷ []) c.in_ok-push.ensures.items
    (All-push found before one c.requires.before (omega (arith, c.in-Some.ensures, c.requires.end), c.in_ok-answer.ensures))
