use Rattle.net_core.proofs.Library.{slice_get_within}
use Rattle.master_bound.proofs.Entering.{counted, gaining_column, no_column}
use Rattle.master_bound.proofs.columns.MasterProgramColumns.price.Goals as goal

pub returns-in_default-clause-found : goal.returns-in_default-clause-found
returns-in_default-clause-found c =
    let task = c.args.self.now.task in
    no_column task.net.now.links task.pairs.now c.args.duals.now task.cuts.now (rw c.in_default.is at c.best_candidate.ensures)

pub column_at-requires : goal.column_at-requires
column_at-requires c =
    let found = rw c.in-Some.is at c.best_candidate.ensures in
    slice_get_within c.args.self.now.task.cuts.now c.in-Some.best.cut found.0 found.1

pub returns-in-Ok-clause-found : goal.returns-in-Ok-clause-found
returns-in-Ok-clause-found c =
    let task = c.args.self.now.task in
    let cuts = task.cuts.now in
    let found = rw c.in-Some.is at c.best_candidate.ensures in
    gaining_column task.net.now.links task.pairs.now c.args.duals.now cuts c.in-Some.best.cut found.0 c.in-Ok.column found.1
    (counted _ cuts c.in-Some.best.cut found.0 found.1 task.counts) ((rw c.in-Ok.is at c.column_at.ensures) found.0 found.1) found.2
