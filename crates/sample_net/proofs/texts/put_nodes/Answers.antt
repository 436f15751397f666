use Rattle.std.proofs.Common.{◌∷◌, [], arith, codes}
use Rattle.text_kit.{specs.Terms.{Opening, Verbatim}, proofs.Lemmas.{adds_next, adds_section}}
use Rattle.sample_net.proofs.texts.put_nodes.Goals as goal

pub loop-node-preserved : goal.loop-node-preserved
loop-node-preserved c = adds_next (Verbatim (codes "NODES") ∷ Opening ∷ []) (λ n. Verbatim n ∷ []) c.args.nodes.now c.loop-node.node-index c.node-item.result c.loop-node-test.true c.node-item.is c.loop-node.invariant c.in_ok-put_name.ensures

pub returns : goal.returns
returns c = adds_section (codes "NODES") (λ n. Verbatim n ∷ []) c.args.nodes.now c.loop-node.node-index _ _ (omega (arith, c.loop-node-test.false)) c.loop-node.invariant c.put_close.ensures
