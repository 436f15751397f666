use Rattle.std.proofs.Common.{◌≡◌, List, length}
use Rattle.plan_terms.specs.Terms.{Module}
use Rattle.module_choice.{specs.inner.Routes.AlikeAreCovered, proofs.SameModules.TheseAreCovered}
use Rattle.module_choice.proofs.alike.cover_by_table.Given as goal

-- the links so far that have the modules are covered, and those that were covered still are
abbrev pub invariant-loop-e : goal.invariant-loop-e
invariant-loop-e l = record {
  count : length l.counts ≡ length l.initial.counts;
  these : TheseAreCovered l.links l.needs l.counts l.modules l.e;
  others : (modules : List Module) → AlikeAreCovered l.links l.needs l.initial.counts modules → AlikeAreCovered l.links l.needs l.counts modules;
}
