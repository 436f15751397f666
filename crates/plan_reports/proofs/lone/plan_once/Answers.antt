use Rattle.plan_terms.specs.Terms.{case_of}
use Rattle.plan_reports.proofs.lone.plan_once.Goals as goal

pub lone_of-requires : goal.lone_of-requires
lone_of-requires g c = (case_of c.args.instance.now, c.args.instance.now.net.now.notes, c.in_ok-report.ensures)

pub returns : goal.returns
returns g c = c.lone_of.ensures (case_of c.args.instance.now) c.args.instance.now.net.now.notes c.in_ok-report.ensures
