use Rattle.plan_terms.specs.Terms.{case_of}
use Rattle.separator.proofs.Answering.{among_answered, of_same, pools_only, violated_answer}
use Rattle.separator.proofs.found_answer.answer_cut.Goals as goal

pub returns-in_err-line-clause-pools : goal.returns-in_err-line-clause-pools
returns-in_err-line-clause-pools c caps found = of_same (case_of c.args.instance.now) caps c.args.state.0 c.args.board.now c.line_and_spot.new.board c.in_err-line.ensures.none

pub returns-clause-pools : goal.returns-clause-pools
returns-clause-pools c caps found =
    pools_only (case_of c.args.instance.now) caps c.args.state.0 c.args.cut c.in_ok-line.line found c.in_ok-line.ensures.line
    c.args.board.now c.line_and_spot.new.board c.in_ok-line.ensures.only

pub returns-clause-answer : goal.returns-clause-answer
returns-clause-answer c caps found =
    violated_answer (case_of c.args.instance.now) caps c.args.state.0 c.args.cut c.in_ok-line.line found c.in_ok-line.ensures.line
    c.line_and_spot.new.board.entries c.in_ok-line.spot c.in_ok-line.ensures.spot

pub returns-clause-among : goal.returns-clause-among
returns-clause-among c =
    among_answered c.args.instance.now.demands.now c.args.cut c.in_ok-line.line c.in_ok-line.ensures.line
    c.args.board.now c.line_and_spot.new.board c.in_ok-line.spot c.in_ok-line.ensures.only
