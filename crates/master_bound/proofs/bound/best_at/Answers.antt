use Rattle.std.proofs.Common.{inl}
use Rattle.master_bound.proofs.Networks.{network_modules, task_packing}
use Rattle.master_bound.proofs.bound.best_at.Goals as goal

pub best_of-requires-clause-packing : goal.best_of-requires-clause-packing
best_of-requires-clause-packing c =
    let narrow = rw (c.items.ensures, c.items-2.ensures, c.items-3.ensures, c.links.ensures) at c.in-None.ensures in
    task_packing c.args.net.now.links c.args.pairs.now c.args.cuts.now (network_modules c.args.net.now) c.requires.units c.requires.lengths narrow c.requires.costs c.requires.different

pub returns-in-Some : goal.returns-in-Some
returns-in-Some c =
    let found = rw (c.items.ensures, c.items-2.ensures, c.items-3.ensures, c.links.ensures) at c.in-Some.ensures in
    inl (c.in-Some.field-0, found.0, found.1, found.2)
