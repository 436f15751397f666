use Rattle.std.proofs.Common.{ap, length, ◌∙◌}
use Rattle.net_core.proofs.Library.{on_ok_weaker}
use Rattle.sample_net.proofs.Sound.{ends_few, ends_long, links_steps}
use Rattle.sample_net.proofs.generator.links.Goals as goal

pub links_between-requires : goal.links_between-requires
links_between-requires c = rw (c.items.ensures, c.in_ok-ends.ensures.ends) (ends_few c.args.draws.now.number c.args.n c.requires.1)

pub returns-clause-draws : goal.returns-clause-draws
returns-clause-draws c =
    let x = c.args.draws.now.number in
    let n = c.args.n in
    on_ok_weaker c.links_between.result
    (λ e. links_steps x n c.link_ends.new.draws.number c.links_between.new.draws.number (length c.items.result.now) c.in_ok-ends.ensures.draws
    (ap length (c.items.ensures ∙ c.in_ok-ends.ensures.ends) ∙ ends_long x n) e)
    c.links_between.ensures.draws
