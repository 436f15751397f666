use Rattle.sample_net.proofs.Pairs.{pairs_few}
use Rattle.sample_net.proofs.generator.demands.Goals as goal

pub demands_between-requires : goal.demands_between-requires
demands_between-requires c = rw (c.items.ensures, c.in_ok-pairs.ensures) (pairs_few c.args.n c.requires)
