use Rattle.std.proofs.Common.{◌≡◌, length, drop, ap, sym, subst, ◌∙◌, take_at}
use Rattle.key_rows.{specs.KeyRows.less_rows, specs.inner.Written.AreRaw}
use Rattle.key_rows.proofs.key_row.write_raw_list.Goals as goal

pub write_raw-requires-clause-room : goal.write_raw-requires-clause-room
write_raw-requires-clause-room c = ap length c.items_mut.ensures.value ∙ c.requires.room

pub returns-clause-room : goal.returns-clause-room
returns-clause-room c =
    let old = c.args.raw.now in
    let new = c.write_raw.new.raw in
    let count : length new ≡ length old = c.write_raw.ensures.room ∙ ap length c.items_mut.ensures.value in
    ap length (take_at new (drop (length new) old) (length old) count) ∙ count

pub returns-clause-all : goal.returns-clause-all
returns-clause-all c = λ yes.
    let n = length c.args.rows.now in
    let old = c.args.raw.now in
    let new = c.write_raw.new.raw in
    let count : length new ≡ length old = c.write_raw.ensures.room ∙ ap length c.items_mut.ensures.value in
    subst (AreRaw (less_rows c.args.rows.now c.args.owners.now c.args.weights.now c.args.demand n) n) (sym (take_at new (drop (length new) old) (length old) count)) (c.write_raw.ensures.all yes)
