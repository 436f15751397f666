use Rattle.std.{proofs.Common.{◌≡◌, ◌<◌, ◌*◌, ◌^◌, All, length}, specs.Vec.Iter.{into_iter_items, into_iter_len}}
use Rattle.plan_rounds.proofs.Undividing.{IsUnderWay}
use Rattle.plan_rounds.proofs.whole_routings.undivided_all.Given as goal

-- the routings before those that are left are done
abbrev pub invariant-loop-routing : goal.invariant-loop-routing
invariant-loop-routing l =
    let left = into_iter_items l.routing-iterator in
    IsUnderWay l.divisor l.fn.routings left l.whole
    × All (λ r. 0 < r.den) left
    × All (λ r. All (λ f. l.divisor * f.num < 2 ^ 124) r.flows) left
    × (into_iter_len l.routing-iterator ≡ length left)
