use Rattle.std.proofs.Common.{subst, length}
use Rattle.checked_fraction.specs.Terms.{num}
use Rattle.simplex_core.{specs.Turned.IsNarrowOver, proofs.Divided.has_pivot}
use Rattle.simplex_core.proofs.solver.pivot_at.Goals as goal

pub replace-requires-clause-pivot : goal.replace-requires-clause-pivot
replace-requires-clause-pivot g c =
    has_pivot c.args.basis.now.products c.items.result.now c.args.cost.now (length c.args.basis.now.rows) c.args.r c.items.ensures c.requires.shaped.products c.requires.shaped.short c.requires.inside c.requires.positive c.in-None.ensures

pub replace-requires-clause-over : goal.replace-requires-clause-over
replace-requires-clause-over g c = subst (λ xs. IsNarrowOver (num xs c.args.r) c.args.cost.now) c.items.ensures (c.in-None.ensures.1)
