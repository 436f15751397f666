use Rattle.std.proofs.Common.{[]}
use Rattle.plan_terms.specs.Terms.{Three}
use Rattle.sndlib_reader.specs.Spelling.{module_items}
use Rattle.text_kit.proofs.Lemmas.{adds_more}
use Rattle.sample_net.proofs.texts.put_modules.Goals as goal

pub loop-kind-preserved : goal.loop-kind-preserved
loop-kind-preserved c = adds_more [] (module_items Three) c.args.modules.now c.loop-kind.kind-index _ c.loop-kind-test.true c.loop-kind.invariant c.in_ok-put_module.ensures
