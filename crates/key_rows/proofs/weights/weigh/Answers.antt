use Rattle.std.proofs.Common.{◌≡◌, length, drop, pos, w64, to_z, ap, sym, subst, ◌∙◌, arith, take_at}
use Rattle.net_core.proofs.Library.{ints}
use Rattle.checked_fraction.specs.Terms.{num, IsNarrow}
use Rattle.key_rows.{specs.KeyRows.AreWeights, proofs.Weighing.weights_of}
use Rattle.key_rows.proofs.weights.weigh.Goals as goal

pub write_weights-requires-clause-count : goal.write_weights-requires-clause-count
write_weights-requires-clause-count c = ap length c.items_mut.ensures.value ∙ c.requires.count

pub write_weights-requires-clause-narrow : goal.write_weights-requires-clause-narrow
write_weights-requires-clause-narrow c = λ i. subst (λ xs. IsNarrow (num xs i)) (sym c.items_mut.ensures.value) (c.requires.narrow i)

pub returns-clause-count : goal.returns-clause-count
returns-clause-count c =
    let old = c.args.weights.now in
    let new = c.write_weights.new.weights in
    let count : length new ≡ length old = c.write_weights.ensures.count ∙ ap length c.items_mut.ensures.value in
    ap length (take_at new (drop (length new) old) (length old) count) ∙ count

pub returns-clause-narrow : goal.returns-clause-narrow
returns-clause-narrow c = λ i.
    let old = c.args.weights.now in
    let new = c.write_weights.new.weights in
    let count : length new ≡ length old = c.write_weights.ensures.count ∙ ap length c.items_mut.ensures.value in
    subst (λ xs. IsNarrow (num xs i)) (sym (take_at new (drop (length new) old) (length old) count)) (c.write_weights.ensures.written.narrow i)

pub returns-clause-some : goal.returns-clause-some
returns-clause-some c =
    let rows = c.args.rows.now in
    let owners = c.args.owners.now in
    let all = c.in-Some.all in
    let old = c.args.weights.now in
    let new = c.write_weights.new.weights in
    let count : length new ≡ length old = c.write_weights.ensures.count ∙ ap length c.items_mut.ensures.value in
    let den = c.in-Some.ensures.some in
    let same : to_z w64 all ≡ pos all = omega (arith, ints, den.narrow) in
    subst (λ xs. AreWeights rows owners xs c.args.demand (to_z w64 all)) (sym (take_at new (drop (length new) old) (length old) count))
    (subst (AreWeights rows owners new c.args.demand) (sym same) (weights_of rows owners new c.args.demand all (length rows) den c.write_weights.ensures.written))
