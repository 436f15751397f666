use Rattle.std.proofs.Common.{get_or, length-set, arith}
use Rattle.plan_terms.specs.Terms.{LinkId}
use Rattle.module_choice.proofs.Weights.{add_step}
use Rattle.module_choice.proofs.loads.add_path.Goals as goal

abbrev first_link : LinkId
first_link = record { 0 = 0 }

pub loop-x-preserved : goal.loop-x-preserved
loop-x-preserved c e lt =
    add_step c.args.path.now c.loop-x.x-index c.args.by first_link c.loop-x.loads e (get_or c.args.loads.now e 0) c.loop-x-test.true (omega (arith, length-set c.loop-x.loads)) (c.loop-x.invariant e (omega (arith, length-set c.loop-x.loads)))
