use Rattle.std.proofs.Common.{All, refl, subst}
use Rattle.session_run.{specs.inner.Ranges.IsShortNamed, proofs.ReportForms.transcript}
use Rattle.session_run.proofs.reports.report.Goals as goal

pub returns-in-Ok : goal.returns-in-Ok
returns-in-Ok g c =
    transcript c.args.board.now c.args.net.now.notes c.args.commands.now c.args.outcomes c.in_ok-sorted.sorted c.in-Ok.pool c.requires.opening c.requires.script c.requires.run
    c.in-Ok.ensures.pool.pool c.in-Ok.ensures.pool.cuts c.in-Ok.ensures.pool.low c.in-Ok.ensures.short (subst (All IsShortNamed) c.items.ensures c.are_short_named.ensures)
    c.in_ok-sorted.ensures.ordered c.in_ok-sorted.ensures.same c.in_ok-sorted.ensures.count
    c.notes.result c.in-Ok.entries _ c.notes.ensures c.in-Ok.ensures.entries refl
