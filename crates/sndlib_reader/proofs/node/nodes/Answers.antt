use Rattle.snd_tokens.specs.Terms.{left}
use Rattle.sndlib_reader.proofs.Nodes.{nothing_so_far}
use Rattle.sndlib_reader.proofs.node.nodes.Goals as goal

pub loop-names-init : goal.loop-names-init
loop-names-init c = rw c.new-nodes.ensures (nothing_so_far (left c.args.text.now), (λ named. absurd cc), c.new-names.ensures)
