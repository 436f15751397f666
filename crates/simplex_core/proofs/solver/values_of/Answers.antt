use Rattle.std.proofs.Common.{◌≡◌, ◌<◌, ◌^◌, ◌∙◌, ℕ, Err, ap, length, subst, sym}
use Rattle.net_core.proofs.Library.{err_from_is_err_and}
use Rattle.checked_fraction.specs.Terms.{num}
use Rattle.simplex_core.{specs.inner.Commons.{AreFractionsOf, HaveFractions, fraction_den, IsDenominator, HaveNoDenominator, value_at}, specs.inner.Outcomes.IsValuesOutcome, specs.inner.Shapes.AtEach, proofs.Ending.no_values}
use Rattle.simplex_core.proofs.solver.values_of.Goals as goal

pub returns-in_default : goal.returns-in_default
returns-in_default g c = (
  c.in_ok-fractions.fractions,
  subst (λ rows. AreFractionsOf rows (num c.args.basis.now.bounds) c.in_ok-fractions.fractions) c.items.ensures
      (subst (λ bounds. AreFractionsOf c.items.result.now (num bounds) c.in_ok-fractions.fractions) c.items-2.ensures c.in_ok-fractions.ensures),
  subst (λ xs. HaveNoDenominator (fraction_den xs) (length xs)) c.items-3.ensures c.in_default.ensures,
)

pub values_over-requires : goal.values_over-requires
values_over-requires g c =
    let are = subst (λ rows. AreFractionsOf rows (num c.args.basis.now.bounds) c.in_ok-fractions.fractions) c.items.ensures
    (subst (λ bounds. AreFractionsOf c.items.result.now (num bounds) c.in_ok-fractions.fractions) c.items-2.ensures c.in_ok-fractions.ensures) in
    let d = subst (λ xs. IsDenominator (fraction_den xs) (length xs) c.in-Some.den) c.items-3.ensures c.in-Some.ensures in
    subst (λ xs. (j : ℕ) → j < length xs → value_at xs c.in-Some.den j < 2 ^ 124) (sym c.items-4.ensures)
    (λ j l. c.requires.low c.in_ok-fractions.fractions c.in-Some.den are d.some d.narrow d.all j l)

pub fractions_of-requires : goal.fractions_of-requires
fractions_of-requires g c =
    let shaped = c.requires.shaped in
    record {
      rows = rw (c.items.ensures, c.items-2.ensures) (record {
        rectangle = shaped.rectangle;
        short = shaped.short;
        count = shaped.bounds;
        narrow = shaped.narrow;
      });
    }

pub returns-in_err-fractions : goal.returns-in_err-fractions
returns-in_err-fractions g c =
    let b = c.args.basis.now in
    let fault = c.in_err-fractions.field-0.0 in
    let have = subst (λ rows. HaveFractions rows (num b.bounds) (Err fault)) c.items.ensures
    (subst (λ bounds. HaveFractions c.items.result.now (num bounds) (Err fault)) c.items-2.ensures c.in_err-fractions.ensures) in
    let p = err_from_is_err_and c.from_residual.result c.from_residual.ensures.1 in
    rw p.1 (subst (λ e. IsValuesOutcome b (Err e)) (sym p.2) (no_values b fault have))

pub returns : goal.returns
returns g c =
    let all = c.in_ok-fractions.fractions in
    record {
      fractions = all;
      are = subst (λ rows. AreFractionsOf rows (num c.args.basis.now.bounds) all) c.items.ensures
          (subst (λ bounds. AreFractionsOf c.items.result.now (num bounds) all) c.items-2.ensures c.in_ok-fractions.ensures);
      den = subst (λ xs. IsDenominator (fraction_den xs) (length xs) c.in-Some.den) c.items-3.ensures c.in-Some.ensures;
      count = c.in_ok-nums.ensures.count ∙ ap length c.items-4.ensures;
      nums = subst (λ xs. AtEach (λ j n. n ≡ value_at xs c.in-Some.den j) c.in_ok-nums.nums) c.items-4.ensures c.in_ok-nums.ensures.values;
    }
