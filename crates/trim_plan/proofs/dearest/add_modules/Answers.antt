use Rattle.trim_plan.proofs.Pricing.{module_put}
use Rattle.trim_plan.proofs.dearest.add_modules.Goals as goal

pub loop-module-preserved : goal.loop-module-preserved
loop-module-preserved c =
    module_put c.args.link c.loop-module.«module» c.args.modules.now _ c.args.priced.now c.loop-module.priced c.push.new.self c.loop-module-test.true c.in_ok-push.ensures.ok c.loop-module.invariant
