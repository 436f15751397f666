use Rattle.routing_tests.proofs.shares.chosen_for.Goals as goal

pub choose-requires-clause-quality : goal.choose-requires-clause-quality
choose-requires-clause-quality c = ∣ tt ∣₁
