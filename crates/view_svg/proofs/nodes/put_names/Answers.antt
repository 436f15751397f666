use Rattle.std.proofs.Common.{◌++◌, ap, arith, ◌∙◌}
use Rattle.view_svg.proofs.NodeTexts.{all_nodes, next_nodes}
use Rattle.view_svg.proofs.nodes.put_names.Goals as goal

pub loop-n-preserved : goal.loop-n-preserved
loop-n-preserved c = next_nodes c.args.nodes.now c.args.spots.now c.loop-n.n c.index-nodes-n.result _ c.args.text.now c.loop-n.text c.put_name.new.text
    (omega arith) (omega arith) c.index-nodes-n.is c.loop-n.invariant c.in_ok-put_name.ensures

pub returns : goal.returns
returns c = c.loop-n.invariant ∙ ap (λ t. c.args.text.now ++ t) (all_nodes c.args.nodes.now c.args.spots.now c.loop-n.n (omega arith))
