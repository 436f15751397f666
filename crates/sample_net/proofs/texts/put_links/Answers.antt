use Rattle.std.proofs.Common.{◌∷◌, [], arith, codes}
use Rattle.text_kit.{specs.Terms.{Opening, Verbatim}, proofs.Lemmas.{adds_next, adds_section}}
use Rattle.sample_net.specs.Texts.{costless_items}
use Rattle.sample_net.proofs.texts.put_links.Goals as goal

pub loop-link-preserved : goal.loop-link-preserved
loop-link-preserved c = adds_next (Verbatim (codes "LINKS") ∷ Opening ∷ []) (costless_items c.args.nodes.now) c.args.links.now c.loop-link.link-index c.link-item.result c.loop-link-test.true c.link-item.is c.loop-link.invariant c.in_ok-put_link.ensures

pub returns : goal.returns
returns c = adds_section (codes "LINKS") (costless_items c.args.nodes.now) c.args.links.now c.loop-link.link-index _ _ (omega (arith, c.loop-link-test.false)) c.loop-link.invariant c.put_close.ensures
