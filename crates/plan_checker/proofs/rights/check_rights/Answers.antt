use Rattle.std.proofs.Common.{◌∙◌, subst, sym}
use Rattle.plan_terms.{specs.Terms.{graph_in, Joins, case_of, IsRight}, proofs.Lemmas.right_once}
use Rattle.plan_types.specs.declared.certificate.CertLine.{CertLine}
use Rattle.plan_checker.{specs.Certified.HasStaleRight, proofs.Places.{all_held, each_read, none_at_all, none_read}, proofs.Telling.no_right}
use Rattle.plan_checker.proofs.rights.check_rights.Goals as goal

pub loop-i-preserved : goal.loop-i-preserved
loop-i-preserved c =
    let p = case_of c.args.instance.now in
    let i = c.loop-i.i in
    let d = c.index-lines-i.result in
    let same = c.if-cut-right.false in
    record {
      none = λ j x y lt. none_read c.args.lines.now (λ k (line : CertLine). HasStaleRight p line.cut x y) i d c.loop-i-test.true (λ k lt'. c.loop-i.invariant.none k x y lt')
          (λ other. other.differ (sym other.printed ∙ same ∙ right_once _ _ _ _ _ c.in_ok-right.ensures other.right)) j lt;
      rights = each_read c.args.lines.now (λ k (line : CertLine). IsRight (Joins (graph_in p line.cut.state.0)) line.cut.lengths p.demands line.cut.right) i d c.loop-i-test.true c.loop-i.invariant.rights
          (subst (IsRight _ _ _) (sym same) c.in_ok-right.ensures);
    }

pub returns-clause-told : goal.returns-clause-told
returns-clause-told c =
    let p = case_of c.args.instance.now in
    no_right p c.args.lines.now (λ i x y. none_at_all c.args.lines.now (λ k (line : CertLine). HasStaleRight p line.cut x y) c.loop-i.i c.loop-i-test.false (λ k lt. c.loop-i.invariant.none k x y lt) i)

pub returns-clause-rights : goal.returns-clause-rights
returns-clause-rights c = all_held c.args.lines.now (λ (line : CertLine). IsRight (Joins (graph_in (case_of c.args.instance.now) line.cut.state.0)) line.cut.lengths c.args.instance.now.demands.now line.cut.right) c.loop-i.i c.loop-i-test.false c.loop-i.invariant.rights
