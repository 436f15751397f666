use Rattle.std.proofs.Common.{length}
use Rattle.box_program.proofs.Packing.{column_more}
use Rattle.box_program.proofs.columns.push_column.Goals as goal

pub returns : goal.returns
returns c =
    column_more (length c.args.rows.now.bounds) c.args.columns.now c.push.new.self c.column_at-rated.result c.in_ok-push.ensures.ok c.requires.columns
    (rw (c.items.ensures, c.len.ensures) at c.column_at-rated.ensures)
