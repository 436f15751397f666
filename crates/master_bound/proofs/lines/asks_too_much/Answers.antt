use Rattle.std.proofs.Common.{arith}
use Rattle.master_bound.{specs.declared.answer.Multiplier.Multiplier, proofs.Asked.asked_before}
use Rattle.master_bound.proofs.lines.asks_too_much.Goals as goal

pub returns-then-asked-clause-yes : goal.returns-then-asked-clause-yes
returns-then-asked-clause-yes c _ =
    let none : Multiplier = record { cut = 0; num = 0 } in
    omega (arith, asked_before c.args.cuts.now c.loop-multiplier.multiplier-index c.args.multipliers.now none c.loop-multiplier-test.true, c.asked_by-asked.ensures.asked, c.loop-multiplier.invariant.0, c.if-asked.true)
