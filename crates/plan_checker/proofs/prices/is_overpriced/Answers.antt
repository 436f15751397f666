use Rattle.std.{proofs.Math.Nat.div-lt_iff_lt-mul, proofs.lemmas.Bool.{lt-ltb, ltb-true}}
use Rattle.plan_checker.proofs.prices.is_overpriced.Goals as goal

pub returns : goal.returns
returns c = let iff = div-lt_iff_lt-mul c.requires.sound.carries in (λ t. iff.0 (ltb-true _ _ t), λ lt. lt-ltb _ _ (iff.1 lt))
