use Rattle.std.proofs.Common.{subst, sym}
use Rattle.net_core.proofs.Library.{◌∣◌}
use Rattle.box_program.proofs.Dividing.{divides_gcd}
use Rattle.box_program.proofs.divisors.divisor_of.Goals as goal

pub returns : goal.returns
returns c d =
    let gcd = divides_gcd c.args.unit c.saturating_sub.result c.gcd-unit.result c.gcd-unit.ensures d in
    let over = (rw c.items.ensures at c.divisor_over.ensures) d in (
      λ h. let parts = over.0 h in let both = gcd.0 parts.0 in (both.0, (parts.1, subst (λ n. d ∣ n) c.saturating_sub.ensures both.1)),
      λ h. over.1 (gcd.1 (h.0, subst (λ n. d ∣ n) (sym c.saturating_sub.ensures) h.1.1), h.1.0),
    )
