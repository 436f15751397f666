use Rattle.std.proofs.Common.{◌≡◌, length}
use Rattle.module_choice.proofs.SameModules.{AllCovered}
use Rattle.module_choice.proofs.alike.cover_each.Given as goal

-- the links that have the modules of one so far are covered
abbrev pub invariant-loop-e : goal.invariant-loop-e
invariant-loop-e l = record {
  count : length l.counts ≡ length l.links;
  covered : AllCovered l.links l.needs l.counts l.e;
}
