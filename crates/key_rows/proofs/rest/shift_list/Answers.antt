use Rattle.std.proofs.Common.{◌≡◌, ◌+◌, ◌≤◌, ◌^◌, unsigned_abs, length, drop, ap, sym, subst, ◌∙◌, ℤ, ◌+ℤ◌, ◌*ℤ◌, take_at}
use Rattle.checked_fraction.specs.Terms.{num}
use Rattle.key_rows.specs.Names.{IsShortPath, path_uses}
use Rattle.key_rows.proofs.rest.shift_list.Goals as goal

pub shift-requires-clause-path : goal.shift-requires-clause-path
shift-requires-clause-path c = subst (λ xs. IsShortPath (length xs) c.args.path.now) (sym c.items_mut.ensures.value) c.requires.path

pub shift-requires-clause-rest : goal.shift-requires-clause-rest
shift-requires-clause-rest c = λ k. subst (λ xs. unsigned_abs (num xs k) ≤ 2 ^ 101) (sym c.items_mut.ensures.value) (c.requires.rest k)

pub returns-clause-count : goal.returns-clause-count
returns-clause-count c =
    let old = c.args.rest.now in
    let new = c.shift.new.rest in
    let count : length new ≡ length old = c.shift.ensures.count ∙ ap length c.items_mut.ensures.value in
    ap length (take_at new (drop (length new) old) (length old) count) ∙ count

pub returns-clause-each : goal.returns-clause-each
returns-clause-each c = λ k.
    let old = c.args.rest.now in
    let new = c.shift.new.rest in
    let count : length new ≡ length old = c.shift.ensures.count ∙ ap length c.items_mut.ensures.value in
    let by : ℤ = c.args.by.now *ℤ path_uses c.args.path.now k in
    subst (λ xs. num xs k ≡ num old k +ℤ by) (sym (take_at new (drop (length new) old) (length old) count))
    (subst (λ xs. num new k ≡ num xs k +ℤ by) c.items_mut.ensures.value (c.shift.ensures.each k))

pub returns-clause-bound : goal.returns-clause-bound
returns-clause-bound c = λ k.
    let old = c.args.rest.now in
    let new = c.shift.new.rest in
    let count : length new ≡ length old = c.shift.ensures.count ∙ ap length c.items_mut.ensures.value in
    subst (λ xs. unsigned_abs (num xs k) ≤ unsigned_abs (num old k) + 2 ^ 70) (sym (take_at new (drop (length new) old) (length old) count))
    (subst (λ xs. unsigned_abs (num new k) ≤ unsigned_abs (num xs k) + 2 ^ 70) c.items_mut.ensures.value (c.shift.ensures.bound k))
