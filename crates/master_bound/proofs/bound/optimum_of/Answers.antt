use Rattle.master_bound.proofs.bound.optimum_of.Goals as goal

pub solve-requires : goal.solve-requires
solve-requires c = c.requires.packing
