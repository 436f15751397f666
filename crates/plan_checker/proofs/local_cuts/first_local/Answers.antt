use Rattle.std.proofs.Common.{refl}
use Rattle.net_core.proofs.Library.{false≢true}
use Rattle.plan_terms.specs.Terms.{graph_in, case_of, AreKept}
use Rattle.plan_types.specs.declared.certificate.CertLine.{CertLine}
use Rattle.plan_checker.{specs.Certified.IsLocalCut, proofs.Places.{all_held, each_more, none_at_all, none_more}}
use Rattle.plan_checker.proofs.local_cuts.first_local.Goals as goal

pub loop-i-preserved : goal.loop-i-preserved
loop-i-preserved c =
    let p = case_of c.args.instance.now in
    record {
      none = none_more c.args.lines.now (λ k. IsLocalCut p c.args.full) c.loop-i.i c.index-lines-i.result c.index-lines-i.is c.loop-i.invariant.none (λ local. false≢true (c.if-is_local.ensures.local.1 local));
      kept = each_more c.args.lines.now (λ k (line : CertLine). AreKept (graph_in p line.cut.state.0) line.cut.lengths) c.loop-i.i c.index-lines-i.result c.loop-i-test.true c.index-lines-i.is c.loop-i.invariant.kept (c.if-is_local.ensures.kept refl);
    }

pub returns-clause-first : goal.returns-clause-first
returns-clause-first c = none_at_all c.args.lines.now (λ k. IsLocalCut (case_of c.args.instance.now) c.args.full) c.loop-i.i c.loop-i-test.false c.loop-i.invariant.none

pub returns-clause-kept : goal.returns-clause-kept
returns-clause-kept c = all_held c.args.lines.now (λ (line : CertLine). AreKept (graph_in (case_of c.args.instance.now) line.cut.state.0) line.cut.lengths) c.loop-i.i c.loop-i-test.false c.loop-i.invariant.kept
