use Rattle.std.{proofs.Common.{◌≡◌, ◌++◌, length, take}, specs.Vec.Iter.{into_iter_items, into_iter_len}}
use Rattle.plan_rounds.proofs.cut_items.add_items.Given as goal

-- those that were put are the first, and the others are left
abbrev pub invariant-loop-item : goal.invariant-loop-item
invariant-loop-item g l =
    let left = into_iter_items l.item-iterator in (l.into ++ left ≡ l.fn.into ++ take l.fn.most l.fn.items) × (into_iter_len l.item-iterator ≡ length left)
