use Rattle.std.proofs.Common.{List, All, arith, subst, sym}
use Rattle.plan_terms.specs.Terms.{CutLine, IsCut, case_of}
use Rattle.net_core.proofs.Library.{length-map}
use Rattle.plan_types.specs.declared.certificate.CertLine.{CertLine}
use Rattle.plan_reports.proofs.Lemmas.{lone_plans_carry}
use Rattle.proof_report.{proofs.Certain.certified_certain, proofs.Handing.handed_long, proofs.Known.{certificate_few, certified_told, handed_told, lines_shown, own_stand, pool_few}, proofs.Proved.{lined_report_made, routed_plan}, specs.ProvedReports.certificate_cuts}
use Rattle.proof_report.proofs.ending.prove_planned.Goals as goal

pub handed_cuts-requires-clause-pool : goal.handed_cuts-requires-clause-pool
handed_cuts-requires-clause-pool g c = let i = c.args.instance.now in pool_few (case_of i) i.net.now.notes c.args.planned c.requires.trimmed.trimmed.transcript

pub handed_cuts-requires-clause-lines : goal.handed_cuts-requires-clause-lines
handed_cuts-requires-clause-lines g c =
    let i = c.args.instance.now in
    let few = certificate_few (case_of i) i.net.now.notes c.args.planned c.requires.trimmed.trimmed.transcript in
    omega (arith, few)

pub work_out-requires : goal.work_out-requires
work_out-requires g c =
    let i = c.args.instance.now in
    subst (λ (cuts : List CutLine). All (λ cut. ∥ IsCut (case_of i) cut ∥₁) cuts) (sym c.items.ensures)
    (handed_told (case_of i) i.net.now.notes c.args.planned c.requires.trimmed.trimmed.transcript c.in_ok-cuts.cuts c.in_ok-cuts.ensures)

pub prove_instance-requires-clause-survivable : goal.prove_instance-requires-clause-survivable
prove_instance-requires-clause-survivable g c =
    let i = c.args.instance.now in
    (lone_plans_carry (case_of i) i.net.now.notes c.args.planned c.requires.trimmed.trimmed.transcript).1

pub prove_instance-requires-clause-demands : goal.prove_instance-requires-clause-demands
prove_instance-requires-clause-demands g c =
    let i = c.args.instance.now in
    (lone_plans_carry (case_of i) i.net.now.notes c.args.planned c.requires.trimmed.trimmed.transcript).0.demands

pub prove_instance-requires-clause-routed : goal.prove_instance-requires-clause-routed
prove_instance-requires-clause-routed g c =
    let i = c.args.instance.now in
    routed_plan (case_of i) i.net.now.notes c.args.limit c.args.planned c.requires.trimmed

pub prove_instance-requires-clause-certified : goal.prove_instance-requires-clause-certified
prove_instance-requires-clause-certified g c =
    let i = c.args.instance.now in
    let p = case_of i in
    let sound = subst (All (IsCut p)) c.items.ensures c.in_ok-work_out.ensures in
    certified_certain p c.args.planned.plan (certified_told p i.net.now.notes c.args.planned c.requires.trimmed.trimmed.transcript)
    (lines_shown p c.in_ok-cuts.cuts c.args.planned.plan.certificate.lines sound c.in_ok-cuts.ensures.all)

pub prove_instance-requires-clause-cuts : goal.prove_instance-requires-clause-cuts
prove_instance-requires-clause-cuts g c =
    let i = c.args.instance.now in
    let p = case_of i in
    let cuts = c.in_ok-cuts.cuts in
    let long = handed_long c.args.planned.pool (certificate_cuts c.args.planned.plan.certificate) cuts c.in_ok-cuts.ensures in
    let pooled = pool_few p i.net.now.notes c.args.planned c.requires.trimmed.trimmed.transcript in
    let lines = certificate_few p i.net.now.notes c.args.planned c.requires.trimmed.trimmed.transcript in
    record {
      few = omega (arith, long, pooled, lines, length-map c.args.planned.plan.certificate.lines (λ (l : CertLine). l.cut));
      sound = subst (All (IsCut p)) c.items.ensures c.in_ok-work_out.ensures;
      own = own_stand cuts c.args.planned.plan.certificate.lines c.in_ok-cuts.ensures.all;
    }

pub returns-clause-lined : goal.returns-clause-lined
returns-clause-lined g c =
    let i = c.args.instance.now in
    let shown = c.in_ok-proof.ensures in
    lined_report_made (case_of i) i.net.now.notes c.args.limit c.args.planned c.requires.trimmed c.in_ok-cuts.cuts c.in_ok-cuts.ensures c.in_ok-proof.proof shown.proof shown.cheapest shown.above

pub returns-clause-plain : goal.returns-clause-plain
returns-clause-plain g c = λ none. c.in_ok-proof.ensures.lines none
