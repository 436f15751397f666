use Rattle.std.proofs.Common.{◌≡◌, ◌≤◌}
use Rattle.line_maker.specs.Orders.{cuts_before}
use Rattle.line_maker.proofs.places.cut_number.Given as goal

-- the count is that of the cuts so far
abbrev pub invariant-loop-entry : goal.invariant-loop-entry
invariant-loop-entry l = (l.count ≡ cuts_before l.fn.entries l.entry-index) × (l.count ≤ l.entry-index)
