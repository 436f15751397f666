use Rattle.std.proofs.Common.{sym, subst}
use Rattle.net_core.proofs.Library.{IsGcd, IsGcd-swap}
use Rattle.checked_fraction.proofs.pivot.joined.Goals as goal

pub returns : goal.returns
returns c = subst (λ g. IsGcd c.args.common.now.value c.args.size g) (sym c.new.ensures) (IsGcd-swap _ _ _ c.gcd.ensures)
