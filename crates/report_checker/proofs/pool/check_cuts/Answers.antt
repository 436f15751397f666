use Rattle.plan_terms.specs.Terms.{CutLine, graph_in, case_of, AreKept}
use Rattle.plan_checker.proofs.Places.{all_held, none_at_all}
use Rattle.report_checker.{specs.Pools.IsBadCut, proofs.Telling.no_bad, proofs.PoolLines.{bad_here, kept_more, none_bad_more}}
use Rattle.report_checker.proofs.pool.check_cuts.Goals as goal

pub returns-then-is_bad-clause-told : goal.returns-then-is_bad-clause-told
returns-then-is_bad-clause-told c = (bad_here (case_of c.args.instance.now) c.args.pool.now c.loop-k.k c.loop-k-test.true (λ line at. (c.is_bad.ensures.bad line at).0 c.if-is_bad.true), c.loop-k.invariant.none)

pub loop-k-preserved : goal.loop-k-preserved
loop-k-preserved c =
    let p = case_of c.args.instance.now in
    record {
      none = none_bad_more p c.args.pool.now c.loop-k.k c.loop-k-test.true (λ line at bad. absurd cc ((c.is_bad.ensures.bad line at).1 bad, c.if-is_bad.false)) c.loop-k.invariant.none;
      kept = kept_more p c.args.pool.now c.loop-k.k c.loop-k-test.true (λ line at. c.is_bad.ensures.kept line at c.if-is_bad.false) c.loop-k.invariant.kept;
    }

pub returns-clause-told : goal.returns-clause-told
returns-clause-told c =
    let p = case_of c.args.instance.now in
    no_bad p c.args.pool.now (none_at_all c.args.pool.now (IsBadCut p c.args.pool.now) c.loop-k.k c.loop-k-test.false c.loop-k.invariant.none)

pub returns-clause-kept : goal.returns-clause-kept
returns-clause-kept c =
    let p = case_of c.args.instance.now in
    all_held c.args.pool.now (λ (line : CutLine). AreKept (graph_in p line.state.0) line.lengths) c.loop-k.k c.loop-k-test.false c.loop-k.invariant.kept
