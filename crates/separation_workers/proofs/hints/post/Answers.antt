use Rattle.std.proofs.Common.{◌≤◌, All, Contains, subst, sym}
use Rattle.hint_board.{specs.Hints.hint_links, specs.Priced.AreHintLengths}
use Rattle.separation_workers.proofs.Shown.{zeros_and_ones_are_hints}
use Rattle.separation_workers.proofs.hints.post.Goals as goal

pub post-requires : goal.post-requires
post-requires g c =
    let links = hint_links c.args.hints.now in
    let are = c.are_zeros_and_ones.ensures c.if-not-are_zeros_and_ones.false in
    subst (AreHintLengths links) (sym c.in-Ok.ensures)
    (zeros_and_ones_are_hints c.zeros_and_ones_are_priced.ensures links c.args.lengths.now c.requires.count c.requires.few
    (subst (All (λ l. l ≤ 1)) c.items.ensures are.0) (subst (λ ls. Contains ls 1) c.items.ensures are.1))
