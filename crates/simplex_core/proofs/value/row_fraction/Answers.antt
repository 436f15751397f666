use Rattle.std.proofs.Common.{◌≡◌, unsigned_abs, length, ap, ◌∙◌, arith}
use Rattle.net_core.proofs.Library.{ints}
use Rattle.checked_fraction.specs.Terms.{num}
use Rattle.simplex_law.specs.Terms.{dot}
use Rattle.simplex_core.proofs.Fractions.{fraction_is}
use Rattle.simplex_core.proofs.value.row_fraction.Goals as goal

pub returns-clause-some : goal.returns-clause-some
returns-clause-some c =
    let size : c.unsigned_abs.result ≡ unsigned_abs c.in_ok-value.value = omega (arith, ints, c.in_ok-value.ensures.1) in
    fraction_is _ c.in_ok-value.value c.args.row.now.den c.unsigned_abs.result c.size_of_den.result c.fraction_of.result size
    (c.in_ok-value.ensures.0 ∙ (ap (λ xs. dot (length xs) (num xs) (num c.args.bounds.now)) c.nums.ensures ∙ ap (λ n. dot n (num c.args.row.now.nums) (num c.args.bounds.now)) c.requires.equal))
    c.size_of_den.ensures.value c.fraction_of.ensures.same c.fraction_of.ensures.divides
