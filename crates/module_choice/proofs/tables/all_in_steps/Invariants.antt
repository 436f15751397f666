use Rattle.std.proofs.Common.{◌≡◌, All, length, take}
use Rattle.plan_terms.specs.Terms.{IsModule}
use Rattle.module_choice.specs.inner.Tables.{in_units}
use Rattle.module_choice.proofs.tables.all_in_steps.Given as goal

-- the modules so far are in steps
abbrev pub invariant-loop-m : goal.invariant-loop-m
invariant-loop-m l = record {
  scaled : take l.m-index l.modules ≡ in_units l.step l.scaled;
  count : length l.scaled ≡ l.m-index;
  sound : All IsModule l.scaled;
}
