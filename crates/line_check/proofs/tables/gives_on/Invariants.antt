use Rattle.line_check.specs.inner.Tables.{GivesOn}
use Rattle.line_check.proofs.tables.gives_on.Given as goal

-- none of the modules so far
abbrev pub invariant-loop-m : goal.invariant-loop-m
invariant-loop-m l = GivesOn l.over l.e l.m l.kind → ⊥
