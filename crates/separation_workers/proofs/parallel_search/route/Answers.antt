use Rattle.std.proofs.Common.{arith}
use Rattle.separation_workers.proofs.parallel_search.route.Goals as goal

pub separate_state-requires-clause-joined : goal.separate_state-requires-clause-joined
separate_state-requires-clause-joined c = λ k d at needed apart.
    c.args.round.now.survivable c.args.state.0 k (omega (arith, c.requires)) (record { demand = d; at = at; needed = needed; apart = apart })
