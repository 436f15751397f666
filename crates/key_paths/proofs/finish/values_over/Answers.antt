use Rattle.std.proofs.Common.{◌≡◌, drop, get_or, length, pos, ap, sym, ◌∙◌, subst, take_at}
use Rattle.key_paths.specs.inner.Ends.{role_over}
use Rattle.key_paths.proofs.finish.values_over.Goals as goal

pub returns-clause-values : goal.returns-clause-values
returns-clause-values c = λ r l.
    let b = c.args.keyed.now in
    let old = c.in_ok-values.values in
    let new = c.write_values.new.values in
    let count : length new ≡ length old = c.write_values.ensures.count ∙ ap length c.items_mut.ensures.value in
    subst (λ xs. pos (get_or xs (get_or b.places r 0) 0) ≡ role_over b c.args.all r) (sym (take_at new (drop (length new) old) (length old) count)) (c.write_values.ensures.values r l)
