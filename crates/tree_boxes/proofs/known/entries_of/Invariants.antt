use Rattle.std.{proofs.Common.{◌≡◌, ◌++◌, length, map}, specs.Vec.Iter.{into_iter_items, into_iter_len}}
use Rattle.line_maker.specs.declared.entry.Entry.TheVariants as entry
use Rattle.tree_boxes.proofs.known.entries_of.Given as goal

-- with those that are left, the entries so far are all
abbrev pub invariant-loop-cut : goal.invariant-loop-cut
invariant-loop-cut l =
    let left = into_iter_items l.cut-iterator in
    (l.entries ++ map entry.Cut left ≡ map entry.Cut l.fn.cuts) × (into_iter_len l.cut-iterator ≡ length left)
