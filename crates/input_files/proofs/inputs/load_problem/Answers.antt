use Rattle.net_core.proofs.Library.{err_from_is_err_and}
use Rattle.input_files.{specs.Stops.named, proofs.Stopping.{failures_end, model_ends}}
use Rattle.input_files.proofs.inputs.load_problem.Goals as goal

pub returns-in_err-model-clause-ends : goal.returns-in_err-model-clause-ends
returns-in_err-model-clause-ends g c =
    let p = err_from_is_err_and c.from_residual-in_err-model.result c.from_residual-in_err-model.ensures.1 in
    rw (p.1, p.2) (model_ends (g.S.Shelf.files c.args.shelf.now) (named c.args.files.now) c.in_ok-net.net c.in_ok-net.demands c.in_err-model.field-0.0
    c.in_ok-net.ensures.has (rw c.in_ok-net.ensures.shelf.same at c.in_err-model.ensures.ends))

pub returns-in_err-states-clause-ends : goal.returns-in_err-states-clause-ends
returns-in_err-states-clause-ends g c =
    let p = err_from_is_err_and c.from_residual-in_err-states.result c.from_residual-in_err-states.ensures.1 in
    rw (p.1, p.2) (failures_end (g.S.Shelf.files c.args.shelf.now) (named c.args.files.now) c.in_ok-net.net c.in_ok-net.demands c.in_ok-model.model c.in_err-states.field-0.0
    c.in_ok-net.ensures.has (rw c.in_ok-net.ensures.shelf.same at c.in_ok-model.ensures.has)
    (rw (c.in_ok-model.ensures.shelf.same, c.in_ok-net.ensures.shelf.same) at c.in_err-states.ensures.ends))

pub returns-clause-has : goal.returns-clause-has
returns-clause-has g c = (
  c.in_ok-net.net,
  c.in_ok-model.model,
  c.in_ok-net.ensures.has,
  rw c.in_ok-net.ensures.shelf.same at c.in_ok-model.ensures.has,
  rw (c.in_ok-model.ensures.shelf.same, c.in_ok-net.ensures.shelf.same) at c.in_ok-states.ensures.has,
  record { nodes = c.settle.ensures.nodes; links = c.settle.ensures.links; notes = c.settle.ensures.notes; places = c.settle.ensures.places },
)
