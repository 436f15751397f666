use Rattle.std.proofs.Common.{take, flat_map}
use Rattle.plan_terms.specs.Terms.{Three}
use Rattle.sndlib_reader.specs.Spelling.{module_items}
use Rattle.text_kit.specs.Terms.{AddsItems}
use Rattle.sample_net.proofs.texts.put_modules.Given as goal

abbrev pub invariant-loop-kind : goal.invariant-loop-kind
invariant-loop-kind l = AddsItems l.fn.text (flat_map (module_items Three) (take l.kind-index l.modules)) l.text
