use Rattle.net_core.proofs.Library.{err_from_is_err_and}
use Rattle.people_files.{specs.CaseInputs.named_case, proofs.Loading.network_fails}
use Rattle.people_files.proofs.inputs.load_placed_case.Goals as goal

pub returns-in_err-net-clause-ends : goal.returns-in_err-net-clause-ends
returns-in_err-net-clause-ends g c =
    let p = err_from_is_err_and c.from_residual.result c.from_residual.ensures.1 in
    rw (p.1, p.2) (network_fails (g.S.Shelf.files c.args.shelf.now) (named_case c.args.words.now) c.in_err-net.field-0.0 c.in_err-net.ensures.ends)

pub returns-clause-has : goal.returns-clause-has
returns-clause-has g c = rw c.in_ok-net.ensures.shelf.same at c.in_ok-problem.ensures.has
