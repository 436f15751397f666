use Rattle.std.proofs.Common.{ap, length, ◌∙◌}
use Rattle.short_paths.proofs.Gathering.{row_size, row_table}
use Rattle.short_paths.proofs.least_paths.LeastPaths.distances_to.Goals as goal

pub returns-clause-size : goal.returns-clause-size
returns-clause-size c =
    ap length c.items-2.ensures ∙ row_size _ _ _ _ _ c.args.self.now.rows_are _ _ c.requires (rw c.items.ensures at c.index-items-to.is)

pub returns-clause-table : goal.returns-clause-table
returns-clause-table c =
    rw c.items-2.ensures (row_table _ _ _ _ _ c.args.self.now.rows_are _ _ c.requires (rw c.items.ensures at c.index-items-to.is))
