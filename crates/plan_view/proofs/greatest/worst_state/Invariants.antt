use Rattle.plan_view.specs.Loads.{IsFirstOfGreatest, den_in, load_in}
use Rattle.plan_view.proofs.greatest.worst_state.Given as goal

-- the worst of the states so far
abbrev pub invariant-loop-s : goal.invariant-loop-s
invariant-loop-s l = IsFirstOfGreatest l.s (λ s. load_in l.routings s l.link.0) (den_in l.routings) l.worst
