use Rattle.std.specs.Prelude.{pos, ◌≡◌}
use Rattle.key_paths.specs.inner.Ends.{key_over}
use Rattle.key_paths.proofs.finish.key_left.Given as goal

-- what the rows so far leave
abbrev pub invariant-loop-i : goal.invariant-loop-i
invariant-loop-i l = pos l.left ≡ key_over l.keyed l.all l.demand l.i
