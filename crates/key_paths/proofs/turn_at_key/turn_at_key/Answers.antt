use Rattle.std.proofs.Common.{arith}
use Rattle.key_paths.proofs.KeyLeaving.{entering_own}
use Rattle.key_paths.proofs.turn_at_key.turn_at_key.Goals as goal

pub turn_alone-requires-clause-own : goal.turn_alone-requires-clause-own
turn_alone-requires-clause-own c =
    let e = c.requires.enters.entering in
    let none = rw c.items.ensures at c.in-None.ensures in
    entering_own c.args.demand e (λ i l. none i (omega (arith, l, e.held.keyed.shaped.owners)))

pub returns-in-None-clause-turned : goal.returns-in-None-clause-turned
returns-in-None-clause-turned c = λ bound basis place role column e priced. c.turn_alone.ensures bound basis place role column e
