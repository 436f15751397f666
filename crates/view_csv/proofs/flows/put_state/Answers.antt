use Rattle.plan_terms.specs.Terms.{case_of}
use Rattle.view_csv.proofs.StateFlows.{none_in}
use Rattle.view_csv.proofs.flows.put_state.Goals as goal

pub returns-in-None : goal.returns-in-None
returns-in-None c =
    let past = rw c.items.ensures at c.in-None.ensures.lookup in
    none_in (case_of c.args.instance.now) c.args.number.caller c.args.number.serial c.args.plan.now c.args.state c.args.all.now past.3
