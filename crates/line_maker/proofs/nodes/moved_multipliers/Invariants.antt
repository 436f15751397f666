use Rattle.std.{proofs.Common.{◌≡◌, ◌++◌, get_or, length}, specs.Vec.Iter.{into_iter_items, into_iter_len}}
use Rattle.line_maker.specs.Orders.{moved_multipliers}
use Rattle.line_maker.proofs.nodes.moved_multipliers.Given as goal

-- with those that are left, the numerators so far are all
abbrev pub invariant-loop-m : goal.invariant-loop-m
invariant-loop-m l =
    let left = into_iter_items l.m-iterator in
    (l.moved ++ moved_multipliers (λ i. get_or l.places i i) left ≡ moved_multipliers (λ i. get_or l.places i i) l.fn.multipliers) × (into_iter_len l.m-iterator ≡ length left)
