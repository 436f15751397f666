use Rattle.plan_terms.specs.Terms.{case_of}
use Rattle.separator.{specs.Separators.cuts_since, proofs.Answering.{cut_named, cuts_at_most, violated_answer}}
use Rattle.board_desk.specs.Turns.{caller_seen}
use Rattle.separation_workers.proofs.Working.{none_of_state, stays}
use Rattle.separation_workers.proofs.workers.answer_cut.Goals as goal

pub returns-in_err-line-clause-goes : goal.returns-in_err-line-clause-goes
returns-in_err-line-clause-goes g c = stays c.args.round.now c.args.caller.now c.requires.caller

pub returns-in_err-line-clause-cuts : goal.returns-in_err-line-clause-cuts
returns-in_err-line-clause-cuts g c = none_of_state (case_of c.args.round.now.instance) c.args.round.now.caps.now c.args.state.0 c.args.caller.now

pub returns-in_err-spot-clause-cuts : goal.returns-in_err-spot-clause-cuts
returns-in_err-spot-clause-cuts g c =
    cuts_at_most (case_of c.args.round.now.instance) c.args.round.now.caps.now c.args.state.0 c.args.cut c.in_ok-line.line c.requires.found c.in_ok-line.ensures
    (cuts_since (caller_seen c.args.caller.now) (caller_seen c.spot_in_turn.new.caller)) c.spot_in_turn.ensures.pools

pub returns-in_err-spot-clause-goes : goal.returns-in_err-spot-clause-goes
returns-in_err-spot-clause-goes g c = c.spot_in_turn.ensures.goes

pub returns-clause-goes : goal.returns-clause-goes
returns-clause-goes g c = c.spot_in_turn.ensures.goes

pub returns-clause-cuts : goal.returns-clause-cuts
returns-clause-cuts g c =
    cuts_at_most (case_of c.args.round.now.instance) c.args.round.now.caps.now c.args.state.0 c.args.cut c.in_ok-line.line c.requires.found c.in_ok-line.ensures
    (cuts_since (caller_seen c.args.caller.now) (caller_seen c.spot_in_turn.new.caller)) c.spot_in_turn.ensures.pools

pub returns-clause-answer : goal.returns-clause-answer
returns-clause-answer g c =
    violated_answer (case_of c.args.round.now.instance) c.args.round.now.caps.now c.args.state.0 c.args.cut c.in_ok-line.line c.requires.found c.in_ok-line.ensures
    (caller_seen c.spot_in_turn.new.caller).history c.in_ok-spot.spot c.in_ok-spot.ensures.spot

pub returns-clause-among : goal.returns-clause-among
returns-clause-among g c =
    cut_named c.args.round.now.instance.demands.now c.args.cut c.in_ok-line.line c.in_ok-line.ensures c.in_ok-spot.spot
    (cuts_since (caller_seen c.args.caller.now) (caller_seen c.spot_in_turn.new.caller)) c.spot_in_turn.ensures.pools
