use Rattle.sample_net.{specs.Samples.numbered, proofs.Sequence.one_more}
use Rattle.sample_net.proofs.generator.nodes.Goals as goal

pub loop-i-preserved : goal.loop-i-preserved
loop-i-preserved c = rw (c.in_ok-push.ensures.ok) (one_more (numbered 110) c.loop-i.nodes c.loop-i.i _ c.loop-i.invariant c.in_ok-numbered.ensures)
