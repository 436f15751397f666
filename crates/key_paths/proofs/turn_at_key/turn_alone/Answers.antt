use Rattle.std.proofs.Common.{inr}
use Rattle.key_paths.proofs.turn_at_key.turn_alone.Goals as goal

pub returns-in-Ok : goal.returns-in-Ok
returns-in-Ok c = λ bound basis place role column e. (place, role, c.in-Ok.ensures.held bound basis place role column e)

pub returns-in-Err : goal.returns-in-Err
returns-in-Err c = λ bound basis place role column e.
    let wide = c.in-Err.ensures.wide bound basis place role column e in
    inr (record { named = wide.named; holds = wide.wide })
