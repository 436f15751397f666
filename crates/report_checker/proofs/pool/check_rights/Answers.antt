use Rattle.std.proofs.Common.{◌∙◌, sym}
use Rattle.plan_terms.{specs.Terms.{CutLine, case_of}, proofs.Lemmas.right_once}
use Rattle.plan_checker.{proofs.Places.{none_at_all, none_more}, specs.Terms.HasStaleRight}
use Rattle.report_checker.proofs.Telling.{no_stale}
use Rattle.report_checker.proofs.pool.check_rights.Goals as goal

pub loop-k-preserved : goal.loop-k-preserved
loop-k-preserved c j x y lt =
    none_more c.args.pool.now (λ _ (line : CutLine). HasStaleRight (case_of c.args.instance.now) line x y) c.loop-k.k c.index-pool-k.result c.index-pool-k.is (λ i before. c.loop-k.invariant i x y before)
    (λ other. other.differ (sym other.printed ∙ (c.if-line-right.false ∙ right_once _ _ _ _ _ c.in_ok-right.ensures other.right))) j lt

pub returns : goal.returns
returns c = record {
  told = no_stale (case_of c.args.instance.now) c.args.pool.now (λ i x y. none_at_all c.args.pool.now (λ _ (line : CutLine). HasStaleRight (case_of c.args.instance.now) line x y) c.loop-k.k c.loop-k-test.false (λ k lt. c.loop-k.invariant k x y lt) i);
}
