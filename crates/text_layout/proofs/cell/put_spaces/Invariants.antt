use Rattle.std.proofs.Common.{◌≡◌, ◌++◌}
use Rattle.text_layout.specs.Cells.{spaces}
use Rattle.text_layout.proofs.cell.put_spaces.Given as goal

-- the spaces so far
abbrev pub invariant-loop-put : goal.invariant-loop-put
invariant-loop-put l = l.text ≡ l.fn.text ++ spaces l._put
