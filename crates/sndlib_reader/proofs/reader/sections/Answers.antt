use Rattle.sndlib_reader.proofs.Whole.{few_nodes, read_is_network}
use Rattle.sndlib_reader.proofs.reader.sections.Goals as goal

pub after_nodes-rest-requires : goal.after_nodes-rest-requires
after_nodes-rest-requires c = let n = c.in_ok-nodes.ensures.nodes in rw c.in_ok-nodes.ensures.named (few_nodes n.0 c.in_ok-nodes.nodes n.1 n.2)

pub network_and_demands-requires : goal.network_and_demands-requires
network_and_demands-requires c =
    let n = c.in_ok-nodes.ensures.nodes in
    let links = rw c.in_ok-nodes.ensures.named at c.in_ok-rest.ensures.links in
    read_is_network c.args.places n.0 _ c.in_ok-nodes.nodes n.1 links.0 c.in_ok-rest.field-0.0 n.2 links.1
