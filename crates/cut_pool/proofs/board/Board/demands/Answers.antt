use Rattle.std.proofs.Common.{◌∙◌}
use Rattle.cut_pool.{specs.Boards.opening_case, proofs.Told.demands_told}
use Rattle.cut_pool.proofs.board.Board.demands.Goals as goal

pub returns-clause-left : goal.returns-clause-left
returns-clause-left c =
    let self = c.args.self.now in
    c.demands.ensures ∙ demands_told (opening_case self) self.entries self.book.demands self.book.version self.pool self.stands
