use Rattle.std.proofs.Common.{List, ap, arith, ◌∙◌}
use Rattle.plan_terms.specs.Terms.{Flow, load}
use Rattle.view_svg.proofs.ChangedLoads.{changed_load}
use Rattle.view_svg.proofs.changes.changes_of.Goals as goal

pub rounded_loads-requires-clause-within : goal.rounded_loads-requires-clause-within
rounded_loads-requires-clause-within c e =
    omega (
      arith,
      ap (λ (flows : List Flow). load flows e) (c.items.ensures ∙ c.in_ok-changed.ensures),
      changed_load c.args.normal.now c.args.flows.now e,
      c.requires.within e,
    )
