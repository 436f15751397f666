use Rattle.std.proofs.Common.{arith}
use Rattle.plan_terms.specs.Terms.{case_of}
use Rattle.separator.proofs.Answering.{of_none}
use Rattle.separator.proofs.some_states.answer_state.Goals as goal

pub separate_state-requires-clause-joined : goal.separate_state-requires-clause-joined
separate_state-requires-clause-joined c = λ k d at needed apart.
    c.requires.survivable c.args.state.0 k (omega (arith, c.requires.state)) (record { demand = d; at = at; needed = needed; apart = apart })

pub returns-in_err-found-clause-pools : goal.returns-in_err-found-clause-pools
returns-in_err-found-clause-pools c = of_none (case_of c.args.instance.now) c.args.caps.now c.args.state.0 c.args.board.now
