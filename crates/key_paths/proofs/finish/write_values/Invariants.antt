use Rattle.std.specs.Prelude.{ℕ, pos, get_or, ◌≡◌, ◌<◌}
use Rattle.key_paths.specs.inner.Ends.{role_over}
use Rattle.key_paths.proofs.finish.write_values.Given as goal

-- the values of the roles so far
abbrev pub invariant-loop-role : goal.invariant-loop-role
invariant-loop-role l = (r : ℕ) → r < l.role → pos (get_or l.values (get_or l.keyed.places r 0) 0) ≡ role_over l.keyed l.all r
