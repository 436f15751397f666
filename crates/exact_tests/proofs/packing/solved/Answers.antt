use Rattle.std.proofs.Common.{◌≡◌, ℕ}
use Rattle.exact_tests.{specs.declared.packing.Label.TheVariants.{Slack, Listed}, proofs.Listed.{packing, three_fit}}
use Rattle.exact_tests.proofs.packing.solved.Goals as goal

apart : (i j : ℕ) → Listed i ≡ Slack j → ⊥
apart i j e = cc

names : (i j : ℕ) → Listed i ≡ Listed j → i ≡ j
names i j e = cc

slacks : (i j : ℕ) → Slack i ≡ Slack j → i ≡ j
slacks i j e = cc

pub solve-requires : goal.solve-requires
solve-requires c =
    let b = c.in_ok-checked_three.field-0 in
    packing Listed Slack (λ x. x.gain) (λ x. x.takes.first) (λ x. x.takes.second) (λ x. x.takes.third) _ c.in_ok-shapes_of.field-0 apart names slacks (λ x. x.narrow) (λ x. (x.takes.fits_first, x.takes.fits_second, x.takes.fits_third)) (λ x. x.some)
    (λ k lt. three_fit b.first b.second b.third k b.fits_first b.fits_second b.fits_third lt)
