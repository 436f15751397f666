use Rattle.std.proofs.Common.{◌≡◌, ◌+◌, length}
use Rattle.module_choice.specs.inner.Tables.{AreLeastCosts}
use Rattle.module_choice.proofs.tables.least_costs.Given as goal

-- the entries so far
abbrev pub invariant-loop : goal.invariant-loop
invariant-loop l = record {
  least : AreLeastCosts l.modules l.entries;
  count : length l.entries ≡ l.counter + 1;
}
