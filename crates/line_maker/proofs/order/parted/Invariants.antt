use Rattle.std.{proofs.Common.{◌≡◌, ◌++◌, get_or, length, map}, specs.Vec.Iter.{into_iter_items, into_iter_len}}
use Rattle.line_maker.specs.Orders.{cuts_among, lines_among, moved_line}
use Rattle.line_maker.proofs.order.parted.Given as goal

-- with those of the entries that are left, the cuts and lines so far are all
abbrev pub invariant-loop-entry : goal.invariant-loop-entry
invariant-loop-entry l =
    let left = into_iter_items l.entry-iterator in
    let moved = map (moved_line (λ i. get_or l.places i i)) in
    (l.cuts ++ cuts_among left ≡ cuts_among l.fn.entries)
    × (l.lines ++ moved (lines_among left) ≡ moved (lines_among l.fn.entries))
    × (into_iter_len l.entry-iterator ≡ length left)
