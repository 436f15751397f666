use Rattle.std.proofs.Common.{◌≡◌, ℕ, ◌+◌, ◌<◌, ◌≤◌, ◌⊎◌}
use Rattle.line_check.specs.inner.Tables.{GivesAmong}
use Rattle.line_check.proofs.kinds.next_kind.Given as goal

-- the least of the links so far
abbrev pub invariant-loop-e : goal.invariant-loop-e
invariant-loop-e l = record {
  least : (n : ℕ) → l.above < n → GivesAmong l.links l.over l.e n → l.best ≤ n;
  is : (l.best ≡ l.need + 1) ⊎ ((l.above < l.best) × GivesAmong l.links l.over l.e l.best);
}
