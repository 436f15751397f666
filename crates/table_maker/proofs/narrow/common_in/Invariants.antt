use Rattle.std.{proofs.Common.{ℕ, ◌<◌}, specs.Int.◌∣◌}
use Rattle.line_check.specs.Terms.{module_number, need_of, capped}
use Rattle.table_maker.proofs.narrow.common_in.Given as goal

-- the number so far divides what is needed, and what the modules of the links so far give
abbrev pub invariant-loop-e : goal.invariant-loop-e
invariant-loop-e l = record {
  positive : 0 < l.common;
  need : l.common ∣ need_of l.line;
  gives : (k m : ℕ) → k < l.e → m < module_number l.links k → l.common ∣ capped l.line k m;
}
