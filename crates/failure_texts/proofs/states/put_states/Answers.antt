use Rattle.std.proofs.Common.{◌∷◌, [], None, arith, codes}
use Rattle.text_kit.{specs.Terms.{Opening, Verbatim}, proofs.Lemmas.{adds_more, adds_section}}
use Rattle.failure_texts.specs.inner.FateItems.{fate_items}
use Rattle.failure_texts.proofs.states.put_states.Goals as goal

pub loop-fate-preserved : goal.loop-fate-preserved
loop-fate-preserved c = adds_more (Verbatim (codes "FAILURES") ∷ Opening ∷ []) (fate_items c.args.links.now) c.args.fates.now c.loop-fate.fate-index (record { link = record { 0 = 0 }; separated = None }) c.loop-fate-test.true c.loop-fate.invariant c.in_ok-put_fate.ensures

pub returns : goal.returns
returns c = adds_section (codes "FAILURES") (fate_items c.args.links.now) c.args.fates.now c.loop-fate.fate-index _ _ (omega (arith, c.loop-fate-test.false)) c.loop-fate.invariant c.put_close.ensures
