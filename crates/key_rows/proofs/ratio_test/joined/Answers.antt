use Rattle.key_rows.proofs.ratio_test.joined.Goals as goal

pub better_key-requires-clause-rivals : goal.better_key-requires-clause-rivals
better_key-requires-clause-rivals c = c.requires.rivals c.in-Some.best c.in-Some.is
