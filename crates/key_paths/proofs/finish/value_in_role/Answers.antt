use Rattle.std.proofs.Common.{◌≡◌, ◌<◌, ◌*◌, ◌/◌, ◌-◌, ◌^◌, Some, cond, get_or, length, pos, slice_get, unsigned_abs, ap, sym, ◌∙◌, subst, arith, lt-ltb, le-ltb}
use Rattle.net_core.proofs.Library.{slice_get-get_or}
use Rattle.simplex_core.specs.Terms.{den_of}
use Rattle.key_paths.specs.inner.Ends.{row_over, key_over}
use Rattle.key_paths.proofs.finish.value_in_role.Goals as goal

pub value_over-requires : goal.value_over-requires
value_over-requires c =
    let b = c.args.keyed.now in
    let role = c.args.role in
    let all = c.args.all in
    let row = c.index-rows-role.result in
    let lt : role < length b.rows = omega (arith, c.if-role-rows.true, ap length c.items-rows.ensures) in
    let is = rw c.items-rows.ensures at c.index-rows-role.is in
    let at : slice_get b.rows role ≡ Some row = slice_get-get_or b.rows role row lt ∙ ap Some (sym is) in
    subst (λ xs. get_or xs role 0 * (all / unsigned_abs row.den) < 2 ^ 124) (sym c.items.ensures)
    (subst (λ o. get_or b.values role 0 * (all / unsigned_abs (den_of o)) < 2 ^ 124) at (c.requires.fit.rows role lt))

pub returns-then-role-rows : goal.returns-then-role-rows
returns-then-role-rows c =
    let b = c.args.keyed.now in
    let role = c.args.role in
    let all = c.args.all in
    let row = c.index-rows-role.result in
    let lt : role < length b.rows = omega (arith, c.if-role-rows.true, ap length c.items-rows.ensures) in
    let is = rw c.items-rows.ensures at c.index-rows-role.is in
    let at : slice_get b.rows role ≡ Some row = slice_get-get_or b.rows role row lt ∙ ap Some (sym is) in
    let value = c.value_over.ensures ∙ (ap (λ xs. get_or xs role 0 * (all / unsigned_abs row.den)) c.items.ensures ∙ ap (λ o. get_or b.values role 0 * (all / unsigned_abs (den_of o))) (sym at)) in
    subst (λ t. pos c.value_over.result ≡ cond t (row_over b all role) (key_over b all (role - length b.rows) (length b.rows))) (sym (lt-ltb role (length b.rows) lt)) (ap pos value)

pub returns-else-role-rows : goal.returns-else-role-rows
returns-else-role-rows c =
    let b = c.args.keyed.now in
    let role = c.args.role in
    let all = c.args.all in
    subst (λ t. pos c.key_left.result ≡ cond t (row_over b all role) (key_over b all (role - length b.rows) (length b.rows)))
    (sym (le-ltb role (length b.rows) (omega (arith, c.if-role-rows.false, ap length c.items-rows.ensures))))
    (subst (λ xs. pos c.key_left.result ≡ key_over b all (role - length xs) (length b.rows)) c.items-rows.ensures c.key_left.ensures)
