use Rattle.plan_terms.specs.Terms.{case_of}
use Rattle.proof_report.proofs.Lemmas.{lone_plans_carry}
use Rattle.branch_tests.proofs.planned.plan_of.Goals as goal

pub returns : goal.returns
returns c =
    let i = c.args.instance.now in
    let made = lone_plans_carry (case_of i) i.net.now.notes c.args.planned c.requires in
    record {
      survivable = made.1;
      demands = made.0.demands;
      routed = record { carrying = made.0.carrying; costed = made.0.costed; form = made.0.form; lowest = made.0.lowest };
    }
