use Rattle.std.proofs.Common.{◌≡◌, ℕ, ◌<◌, ◌≤◌, ◌⊎◌}
use Rattle.line_check.{specs.Lines.capped, specs.inner.Tables.GivesOn}
use Rattle.line_check.proofs.kinds.next_on_link.Given as goal

-- the least of the modules so far
abbrev pub invariant-loop-m : goal.invariant-loop-m
invariant-loop-m l = record {
  below : l.least ≤ l.best;
  least : (m : ℕ) → m < l.m → l.above < capped l.over l.e m → l.least ≤ capped l.over l.e m;
  is : (l.least ≡ l.best) ⊎ ((l.above < l.least) × GivesOn l.over l.e l.m l.least);
}
