use Rattle.separator.proofs.Admitting.{admit_none, admit_pools, admit_spot}
use Rattle.separator.proofs.admission.spot_of.Goals as goal

pub returns-clause-only : goal.returns-clause-only
returns-clause-only c = admit_pools c.args.board.now c.admit.new.self c.args.cut c.admit.result c.admit.ensures.answer

pub returns-clause-spot : goal.returns-clause-spot
returns-clause-spot c = admit_spot c.args.board.now c.admit.new.self c.args.cut c.admit.result c.spot_after.result c.admit.ensures.answer c.spot_after.ensures

pub returns-clause-none : goal.returns-clause-none
returns-clause-none c = admit_none c.args.board.now c.admit.new.self c.args.cut c.admit.result c.spot_after.result c.admit.ensures.answer c.spot_after.ensures
