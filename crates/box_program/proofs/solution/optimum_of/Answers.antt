use Rattle.box_program.proofs.Packing.{box_packing}
use Rattle.box_program.proofs.solution.optimum_of.Goals as goal

pub solve-requires : goal.solve-requires
solve-requires c =
    let program = c.args.program.now in
    box_packing program.rows.bounds program.columns program.rows.fit program.sound
