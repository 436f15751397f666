use Rattle.std.proofs.Common.{◌∷◌, [], take, flat_map, codes}
use Rattle.text_kit.specs.Terms.{Opening, Verbatim, AddsItems}
use Rattle.sample_net.proofs.texts.put_nodes.Given as goal

abbrev pub invariant-loop-node : goal.invariant-loop-node
invariant-loop-node l = AddsItems l.fn.text (Verbatim (codes "NODES") ∷ Opening ∷ flat_map (λ n. Verbatim n ∷ []) (take l.node-index l.nodes)) l.text
