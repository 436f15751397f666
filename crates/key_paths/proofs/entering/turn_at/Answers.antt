use Rattle.std.proofs.Common.{◌≡◌, ◌+◌, ◌-◌, length, subst, sym, arith}
use Rattle.key_paths.{specs.inner.Held.HasPriced, specs.inner.Outcomes.TurnsAt}
use Rattle.key_paths.proofs.entering.turn_at.Goals as goal

pub turn_at_key-requires-clause-enters : goal.turn_at_key-requires-clause-enters
turn_at_key-requires-clause-enters c =
    let b = c.args.keyed.now in
    let at : length b.rows + (c.args.role - c.len-links.result) ≡ c.args.role = omega (arith, c.len-links.ensures, c.if-role-links.false) in
    subst (λ r. HasPriced (length b.rows) (length b.duals) b c.args.name c.args.cost.now r) (sym at) c.requires.enters

pub returns-else-role-links-clause-turned : goal.returns-else-role-links-clause-turned
returns-else-role-links-clause-turned c =
    let b = c.args.keyed.now in
    let at : length b.rows + (c.args.role - c.len-links.result) ≡ c.args.role = omega (arith, c.len-links.ensures, c.if-role-links.false) in
    subst (λ r. TurnsAt (length b.rows) (length b.duals) b c.args.name c.args.cost.now r c.turn_at_key.result c.turn_at_key.new.keyed) at c.turn_at_key.ensures.turned
