use Rattle.tree_check.specs.inner.Weighing.{AddsModules}
use Rattle.tree_check.proofs.gains.add_link.Given as goal

-- the modules so far
abbrev pub invariant-loop-m : goal.invariant-loop-m
invariant-loop-m l = AddsModules l.of l.e l.m l.initial.sums l.sums
