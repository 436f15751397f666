use Rattle.std.proofs.Common.{◌∙◌, ap, map}
use Rattle.net_core.proofs.Library.{IfOk-weaker}
use Rattle.cut_pool.{specs.Boards.AreLinesNow, specs.Pools.line_of_pooled, proofs.Told.lines_now}
use Rattle.cut_pool.proofs.board.Board.audited_lines.Goals as goal

pub returns : goal.returns
returns g c = IfOk-weaker c.lines_with.result _ (AreLinesNow c.args.self.now) (λ lines is. lines_now c.args.self.now lines (is ∙ ap (map line_of_pooled) c.items.ensures)) c.lines_with.ensures
