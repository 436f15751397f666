use Rattle.net_core.proofs.Library.{err_from_is_err_and}
use Rattle.people_files.{specs.CaseInputs.named_case, proofs.Loading.{failures_fail, model_fails}}
use Rattle.people_files.proofs.inputs.settled_case.Goals as goal

pub returns-in_err-model-clause-ends : goal.returns-in_err-model-clause-ends
returns-in_err-model-clause-ends g c =
    let p = err_from_is_err_and c.from_residual.result c.from_residual.ensures.1 in
    rw (p.1, p.2) (model_fails (g.S.Shelf.files c.args.shelf.now) (named_case c.args.words.now) c.args.net c.args.demands c.in_err-model.field-0.0
    c.requires c.in_err-model.ensures.ends)

pub returns-in_err-states-clause-ends : goal.returns-in_err-states-clause-ends
returns-in_err-states-clause-ends g c =
    let p = err_from_is_err_and c.from_residual-in_err-states.result c.from_residual-in_err-states.ensures.1 in
    rw (p.1, p.2) (failures_fail (g.S.Shelf.files c.args.shelf.now) (named_case c.args.words.now) c.args.net c.args.demands c.in_ok-model.model c.in_err-states.field-0.0
    c.requires c.in_ok-model.ensures.has (rw c.in_ok-model.ensures.shelf.same at c.in_err-states.ensures.ends))

pub returns-clause-has : goal.returns-clause-has
returns-clause-has g c = (
  c.args.net,
  c.in_ok-model.model,
  c.requires,
  c.in_ok-model.ensures.has,
  rw c.in_ok-model.ensures.shelf.same at c.in_ok-states.ensures.has,
  record { nodes = c.settle.ensures.nodes; links = c.settle.ensures.links; notes = c.settle.ensures.notes; places = c.settle.ensures.places },
)
