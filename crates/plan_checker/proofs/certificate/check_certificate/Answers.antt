use Rattle.std.proofs.Common.{List, All, OnOk, ◌<◌, ◌^◌, ◌∙◌, subst}
use Rattle.plan_terms.specs.Terms.{graph_in, Joins, case_of, AreKept, IsRight, given, raw_value, IsBound, IsLowest}
use Rattle.plan_types.{specs.Terms.lines_of_certificate, specs.declared.certificate.CertLine.CertLine}
use Rattle.plan_checker.proofs.Certifying.{certified_by}
use Rattle.plan_checker.proofs.certificate.check_certificate.Goals as goal

pub returns-clause-certified : goal.returns-clause-certified
returns-clause-certified c =
    let p = case_of c.args.instance.now in
    let plan = c.args.plan.now in
    let lines = lines_of_certificate plan.certificate in
    let r = c.check_worth.result in
    let same = c.items.ensures ∙ c.links.ensures in
    let kept = subst (λ (ls : List CertLine). All (λ l. AreKept (graph_in p l.cut.state.0) l.cut.lengths) ls) c.items-lines.ensures c.in_ok-check_cuts.ensures.kept in
    let rights = subst (λ (ls : List CertLine). All (λ l. IsRight (Joins (graph_in p l.cut.state.0)) l.cut.lengths p.demands l.cut.right) ls) c.items-lines.ensures c.in_ok-check_rights.ensures.rights in
    certified_by p c.args.plan.now c.requires.form kept rights c.in_ok-check_prices.ensures.priced c.check_worth.result c.check_worth.ensures.asked
    (subst (λ ks. OnOk r (given ks lines < 2 ^ 126)) same c.check_worth.ensures.given)
    (subst (λ ks. OnOk r (IsLowest (raw_value ks lines) plan.certificate.den plan.raw_num plan.raw_den)) same c.check_worth.ensures.raw)
    (subst (λ ks. OnOk r (IsBound ks (raw_value ks lines) plan.certificate.den plan.bound)) same c.check_worth.ensures.bound)
