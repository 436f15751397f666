use Rattle.std.proofs.Common.{inl, inr}
use Rattle.net_core.proofs.Library.{err_from_is_err_and}
use Rattle.plan_report.specs.Terms.{known_of}
use Rattle.input_files.specs.Terms.{RefusesFlowFile, StopsAtFile, input_limit, named}
use Rattle.outside_io.specs.declared.status.Status.TheVariants.{BadFlows}
use Rattle.planner_commands.{specs.Run.EndsImport, proofs.Answering.{after_inputs, last_ends}}
use Rattle.planner_commands.proofs.run.import_files.Goals as goal

pub returns-in_err-file-clause-ends : goal.returns-in_err-file-clause-ends
returns-in_err-file-clause-ends g c =
    let p = err_from_is_err_and c.from_residual-in_err-file.result c.from_residual-in_err-file.ensures.1 in
    let files = g.S.Shelf.files c.args.shelf.now in
    let name = c.args.four.now.last.now in
    let problem = c.in_ok-problem.problem in
    rw (p.1, p.2) (last_ends files (named c.args.four.now.files) (EndsImport files name) problem c.in_ok-problem.ensures.has
    (StopsAtFile files input_limit name BadFlows (RefusesFlowFile (known_of problem.net problem.states) problem.demands))
    (λ status text e. inl e)
    c.in_err-file.field-0.0 (rw c.in_ok-problem.ensures.shelf.same at c.in_err-file.ensures.ends))

pub returns-clause-ends : goal.returns-clause-ends
returns-clause-ends g c =
    let files = g.S.Shelf.files c.args.shelf.now in
    after_inputs files (named c.args.four.now.files) (EndsImport files c.args.four.now.last.now) c.in_ok-problem.problem c.in_ok-problem.ensures.has
    c.in_ok-answer_import.field-0.status c.in_ok-answer_import.field-0.text
    (inr (
      c.in_ok-file.file,
      rw c.in_ok-problem.ensures.shelf.same at c.in_ok-file.ensures.has,
      c.in_ok-answer_import.ensures,
    ))
