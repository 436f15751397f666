use Rattle.std.proofs.Common.{◌≡◌, ◌++◌, List, OnOk, subst, sym, ℕ}
use Rattle.text_kit.proofs.Lemmas.{on_ok}
use Rattle.people_views.proofs.TreeWords.{node_put, wrong_end}
use Rattle.people_views.proofs.trees.put_wrong.Goals as goal

pub returns-then-node-nodes : goal.returns-then-node-nodes
returns-then-node-nodes c =
    on_ok c.put_node.result (λ put. node_put c.args.text.now c.put_node.new.text c.args.nodes c.args.node c.if-node-nodes.true put) c.put_node.ensures

pub returns : goal.returns
returns c =
    subst (λ (w : List ℕ). OnOk c.append.result (c.append.new.self ≡ c.args.text.now ++ w)) (sym (wrong_end c.args.nodes c.args.node c.if-node-nodes.false))
    (rw c.end_wrong.ensures at c.append.ensures.ok)
