use Rattle.std.proofs.Common.{length}
use Rattle.net_core.proofs.Library.{AllByRecursion, IfOk-weaker}
use Rattle.text_layout.specs.Cells.{AreWidened}
use Rattle.view_cells.{specs.Tables.IsApart, proofs.Apart.still_apart}
use Rattle.view_cells.proofs.tables.fitting.Goals as goal

pub returns-clause-apart : goal.returns-clause-apart
returns-clause-apart c = IfOk-weaker c.widened.result (AreWidened c.args.columns.now c.args.rows.now (length c.args.columns.now)) (AllByRecursion IsApart)
    (λ wide are. still_apart c.args.columns.now c.args.rows.now wide are c.requires) c.widened.ensures
