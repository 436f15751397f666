use Rattle.std.proofs.Common.{inl, inr, subst}
use Rattle.net_core.proofs.Library.{err_from_is_err_and}
use Rattle.input_files.specs.Terms.{RefusesScriptFile, StopsAtFile, input_limit, named}
use Rattle.outside_io.specs.declared.status.Status.TheVariants.{BadScript}
use Rattle.planner_commands.{specs.Run.EndsSession, proofs.Answering.{after_inputs, last_ends}}
use Rattle.planner_commands.proofs.run.session_files.Goals as goal

pub returns-in_err-script-clause-ends : goal.returns-in_err-script-clause-ends
returns-in_err-script-clause-ends g c =
    let p = err_from_is_err_and c.from_residual-in_err-script.result c.from_residual-in_err-script.ensures.1 in
    let files = g.S.Shelf.files c.args.shelf.now in
    let name = c.args.four.now.last.now in
    rw (p.1, p.2) (last_ends files (named c.args.four.now.files) (EndsSession files name) c.in_ok-problem.problem c.in_ok-problem.ensures.has
    (StopsAtFile files input_limit name BadScript (RefusesScriptFile c.places.result))
    (λ status text e. inl (subst (λ p. StopsAtFile files input_limit name BadScript (RefusesScriptFile p) status text) c.places.ensures e))
    c.in_err-script.field-0.0 (rw c.in_ok-problem.ensures.shelf.same at c.in_err-script.ensures.ends))

pub returns-clause-ends : goal.returns-clause-ends
returns-clause-ends g c =
    let files = g.S.Shelf.files c.args.shelf.now in
    let report = c.in_ok-answer_session.ensures.report in
    after_inputs files (named c.args.four.now.files) (EndsSession files c.args.four.now.last.now) c.in_ok-problem.problem c.in_ok-problem.ensures.has
    c.in_ok-answer_session.field-0.status c.in_ok-answer_session.field-0.text
    (inr (
      c.in_ok-script.script,
      report.0,
      rw (c.places.ensures, c.in_ok-problem.ensures.shelf.same) at c.in_ok-script.ensures.has,
      c.in_ok-answer_session.ensures.status,
      report.1,
      report.2,
    ))
