use Rattle.std.proofs.Common.{sym, subst}
use Rattle.net_core.proofs.Library.{◌∣◌, one-dvd}
use Rattle.checked_fraction.proofs.divisor.Divisor.divides.Goals as goal

pub returns-then-self-eq1 : goal.returns-then-self-eq1
returns-then-self-eq1 c = λ yes. subst (λ g. g ∣ c.args.size) (sym c.if-self-eq1.true) (one-dvd c.args.size)
