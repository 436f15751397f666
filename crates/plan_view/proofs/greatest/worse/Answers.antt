use Rattle.std.proofs.Common.{refl}
use Rattle.plan_view.{specs.Loads.{den_in, load_in}, proofs.Firsts.greatest_next}
use Rattle.plan_view.proofs.greatest.worse.Goals as goal

pub returns-then-is_less_in : goal.returns-then-is_less_in
returns-then-is_less_in c =
    greatest_next c.args.s (λ s. load_in c.args.routings.now s c.args.link.0) (den_in c.args.routings.now) c.args.worst c.requires.worst (c.requires.positive c.args.s c.requires.next) (c.if-is_less_in.ensures.0 refl)
