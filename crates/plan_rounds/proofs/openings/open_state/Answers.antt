use Rattle.plan_terms.specs.Terms.{graph_in, case_of}
use Rattle.plan_rounds.{proofs.Opening.{state_few, state_opened}, proofs.Results.on_ok, proofs.Seeing.goes_none}
use Rattle.plan_rounds.proofs.openings.open_state.Goals as goal

pub returns-in_err-cuts-clause-on : goal.returns-in_err-cuts-clause-on
returns-in_err-cuts-clause-on g c = goes_none _ _

pub returns-clause-opened : goal.returns-clause-opened
returns-clause-opened g c =
    on_ok c.take_cuts.result _ _
    (λ takes pool o. state_opened (case_of c.args.instance.now) pool c.args.state.0 c.in_ok-cuts.cuts c.args.candidates.now.lines c.take_cuts.new.candidates.lines c.in_ok-cuts.ensures.each c.in_ok-cuts.ensures.opening takes o)
    c.take_cuts.ensures.taken

pub returns-clause-few : goal.returns-clause-few
returns-clause-few g c =
    on_ok c.take_cuts.result _ _
    (λ takes. state_few (graph_in (case_of c.args.instance.now) c.args.state.0) c.args.instance.now.demands.now c.in_ok-cuts.cuts c.args.candidates.now.lines c.take_cuts.new.candidates.lines c.in_ok-cuts.ensures.opening takes)
    c.take_cuts.ensures.taken
