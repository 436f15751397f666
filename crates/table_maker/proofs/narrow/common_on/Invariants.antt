use Rattle.std.{proofs.Common.{ℕ, ◌<◌}, specs.Int.◌∣◌}
use Rattle.line_check.specs.Lines.{capped}
use Rattle.table_maker.proofs.narrow.common_on.Given as goal

-- the number so far divides the one before, and what the modules so far give
abbrev pub invariant-loop-m : goal.invariant-loop-m
invariant-loop-m l = record {
  positive : 0 < l.common;
  known : l.common ∣ l.known;
  gives : (k : ℕ) → k < l.m → l.common ∣ capped l.line l.e k;
}
