use Rattle.std.proofs.Common.{◌<◌, ◌+◌, length, sym, ap, subst, arith, inl}
use Rattle.key_law.{specs.Terms.swap, proofs.Lemmas.swap_first}
use Rattle.key_rows.specs.Terms.{IsRoom}
use Rattle.key_paths.{specs.inner.Outcomes.{wide_spread, IsWideBasis, ComesOf, TurnsAt}, proofs.Holding.held_names, proofs.KeyEvidence.spread_wide, proofs.KeyLeaving.{same_priced, priced_here}}
use Rattle.key_paths.proofs.turn_at_key.turn_changed.Goals as goal

pub turn_row-requires-clause-enters : goal.turn_row-requires-clause-enters
turn_row-requires-clause-enters c =
    let p = c.requires.enters in
    let links = length c.args.keyed.now.rows in
    let e = c.in-Ok.ensures.enters p.bound p.basis p.place p.role p.column p.entering in
    priced_here (record {
      bound = p.bound;
      basis = p.basis;
      place = λ r. p.place (swap c.args.i (links + c.args.demand) r);
      role = λ j. swap c.args.i (links + c.args.demand) (p.role j);
      column = p.column;
      entering = e;
      priced = same_priced (links + c.args.demand) c.args.i p.entering e c.in-Ok.ensures.prices p.priced;
    })

pub turn_row-requires-clause-inside : goal.turn_row-requires-clause-inside
turn_row-requires-clause-inside c =
    let p = c.requires.enters in
    let e = c.in-Ok.ensures.enters p.bound p.basis p.place p.role p.column p.entering in
    omega (arith, c.requires.inside, e.held.keyed.shaped.rows)

pub turn_row-requires-clause-room : goal.turn_row-requires-clause-room
turn_row-requires-clause-room c =
    let p = c.requires.enters in
    let e = c.in-Ok.ensures.enters p.bound p.basis p.place p.role p.column p.entering in
    subst (λ n. IsRoom n c.change_key.new.room) (sym e.held.keyed.shaped.rows) c.in-Ok.ensures.room

pub returns-in-Ok-clause-room : goal.returns-in-Ok-clause-room
returns-in-Ok-clause-room c =
    let p = c.requires.enters in
    let e = c.in-Ok.ensures.enters p.bound p.basis p.place p.role p.column p.entering in
    λ again. subst (λ n. IsRoom n c.turn_row.new.room) e.held.keyed.shaped.rows (c.turn_row.ensures.room again)

pub returns-in-Ok-clause-turned : goal.returns-in-Ok-clause-turned
returns-in-Ok-clause-turned c =
    let links = length c.args.keyed.now.rows in
    let demands = length c.args.keyed.now.duals in
    let d = c.args.demand in
    let i = c.args.i in
    let mid = c.change_key.new.keyed in
    let last = c.turn_row.new.keyed in
    λ bound basis place role column e priced.
    let o = c.in-Ok.ensures.enters bound basis place role column e in
    let s = o.held.keyed.shaped in
    let turned = subst (λ n. TurnsAt links n mid c.args.name c.args.cost.now i c.turn_row.result last) s.duals
    (subst (λ n. TurnsAt n (length mid.duals) mid c.args.name c.args.cost.now i c.turn_row.result last) s.rows c.turn_row.ensures.turned) in
    let out = turned bound basis (λ r. place (swap i (links + d) r)) (λ j. swap i (links + d) (role j)) column o (same_priced (links + d) i e o c.in-Ok.ensures.prices priced) in
    subst (λ p. ComesOf links demands column bound basis p c.turn_row.result last) (ap place (swap_first i (links + d))) out

pub returns-in-Err-clause-turned : goal.returns-in-Err-clause-turned
returns-in-Err-clause-turned c =
    let b = c.args.keyed.now in
    let links = length b.rows in
    let demands = length b.duals in
    let d = c.args.demand in
    λ bound basis place role column e priced.
    let low : d < demands = omega (arith, e.inside) in
    inl (subst (λ k. IsWideBasis links demands column basis c.change_key.new.keyed.names k) (sym c.wide_key.ensures)
    (subst (λ o. IsWideBasis links demands column basis o.names (wide_spread o d c.in-Err.wide)) (sym c.in-Err.ensures.same)
    (record { named = held_names e.held; holds = spread_wide e.held.keyed column d low c.in-Err.wide c.in-Err.ensures.wide })))
