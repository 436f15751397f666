use Rattle.std.proofs.Common.{◌≡◌, length, drop, ap, sym, subst, ◌∙◌, OnOk, IfErr, take_at}
use Rattle.net_core.proofs.Library.{on_ok_weaker}
use Rattle.simplex_core.{specs.Tables.IsRectangle, specs.Turned.{HavePivot, AreTurned, IsWideRow}}
use Rattle.simplex_core.proofs.pivot.turn_list.Goals as goal

pub turn_rows-requires-clause-rectangle : goal.turn_rows-requires-clause-rectangle
turn_rows-requires-clause-rectangle c = subst (λ xs. IsRectangle (length xs) xs) (sym c.items_mut.ensures.value) c.requires.rectangle

pub turn_rows-requires-clause-spare : goal.turn_rows-requires-clause-spare
turn_rows-requires-clause-spare c = c.requires.spare ∙ sym (ap length c.items_mut.ensures.value)

pub turn_rows-requires-clause-pivot : goal.turn_rows-requires-clause-pivot
turn_rows-requires-clause-pivot c =
    subst (λ xs. HavePivot c.items.result.now (length xs) c.args.r) (sym c.items_mut.ensures.value)
    (subst (λ ps. HavePivot ps (length c.args.rows.now) c.args.r) (sym c.items.ensures) c.requires.pivot)

pub returns-clause-turned : goal.returns-clause-turned
returns-clause-turned c =
    let rows = c.args.rows.now in
    let new = c.turn_rows.new.rows in
    on_ok_weaker c.turn_rows.result
    (λ t. let turned = subst (λ ps. AreTurned (length rows) rows new ps c.args.r) c.items.ensures (subst (λ xs. AreTurned (length xs) xs new c.items.result.now c.args.r) c.items_mut.ensures.value t) in
    subst (λ xs. AreTurned (length rows) rows xs c.args.products.now c.args.r) (sym (take_at new (drop (length new) rows) (length rows) turned.count)) turned)
    c.turn_rows.ensures.turned

pub returns-clause-spare : goal.returns-clause-spare
returns-clause-spare c = subst (λ xs. OnOk c.turn_rows.result (length c.turn_rows.new.spare.nums ≡ length xs)) c.items_mut.ensures.value c.turn_rows.ensures.spare

pub returns-clause-wide : goal.returns-clause-wide
returns-clause-wide c =
    let rows = c.args.rows.now in
    subst (λ ps. IfErr c.turn_rows.result (IsWideRow (length rows) rows ps c.args.r)) c.items.ensures
    (subst (λ xs. IfErr c.turn_rows.result (IsWideRow (length xs) xs c.items.result.now c.args.r)) c.items_mut.ensures.value c.turn_rows.ensures.wide)
