use Rattle.std.proofs.Common.{length, subst}
use Rattle.key_rows.{specs.inner.Orders.IsRowCandidate, proofs.Bests.better_next}
use Rattle.key_rows.proofs.ratio_test.next_row.Goals as goal

pub returns-clause-first : goal.returns-clause-first
returns-clause-first c = λ rest have before.
    better_next (length c.args.rows.now) c.args.rows.now rest c.args.values.now c.args.products.now have c.args.i c.args.best c.candidate_at-other.result c.better_of.result before c.candidate_at-other.ensures.role
    (subst (λ n. IsRowCandidate n c.args.values.now c.args.products.now c.candidate_at-other.result) c.requires.values c.candidate_at-other.ensures.is) c.better_of.ensures
