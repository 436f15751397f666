use Rattle.std.proofs.Common.{take}
use Rattle.table_maker.specs.SetCuts.{IsNewTo}
use Rattle.table_maker.proofs.boundaries.is_among.Given as goal

-- none so far is the cut
abbrev pub invariant-loop-c : goal.invariant-loop-c
invariant-loop-c l = IsNewTo (take l.c-index l.cuts) l.cut
