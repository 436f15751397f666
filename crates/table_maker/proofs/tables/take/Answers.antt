use Rattle.std.proofs.Common.{All, Option, subst, sym, IfSome}
use Rattle.net_core.proofs.Library.{All-push}
use Rattle.table_maker.{specs.Made.IsTableFor, specs.declared.tables.Found.Found}
use Rattle.table_maker.proofs.tables.take.Goals as goal

pub returns-clause-each : goal.returns-clause-each
returns-clause-each c =
    let task = c.args.task.now in
    let is = subst (λ (o : Option Found). IfSome o (λ (f : Found). IsTableFor task f.line)) c.in-Some.is c.in_ok-found.ensures in
    subst (All (IsTableFor task)) (sym c.in_ok-push-2.ensures.ok) (All-push (IsTableFor task) c.args.taken.now.lines c.in-Some.found.line c.requires is)
