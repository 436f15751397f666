use Rattle.box_program.proofs.Amounts.{solution_is}
use Rattle.box_program.proofs.solution.solution_of.Goals as goal

pub returns-clause-is : goal.returns-clause-is
returns-clause-is c =
    let program = c.args.program.now in
    solution_is c.args.links.now c.args.boxed.now program.lines program.rows.modules _ c.price_den-den.ensures c.requires.rows (rw c.items-modules.ensures at c.in_ok-amounts.ensures) c.in_ok-cert.ensures.are
