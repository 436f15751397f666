use Rattle.std.proofs.Common.{◌≡◌, IfSome, length}
use Rattle.hint_board.{specs.Hints.hint_links, specs.Priced.AreHintLengths}
use Rattle.separation_workers.proofs.hints.deepest.Given as goal

abbrev pub invariant-loop-at : goal.invariant-loop-at
invariant-loop-at l =
    (length l.parts ≡ length l.graph.net.now.nodes)
    × IfSome l.best (λ lengths. AreHintLengths (hint_links l.round.hints.now) lengths.now)
