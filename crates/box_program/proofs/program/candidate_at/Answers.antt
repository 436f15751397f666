use Rattle.std.proofs.Common.{◌≡◌, ◌∙◌, ℤ, Some, arith, length, of_z, refl, slice_get, subst, sym, to_z, w64, ◌*ℤ◌, ◌<ℤ◌}
use Rattle.net_core.proofs.Library.{false≢true, ints, slice_get_read}
use Rattle.checked_fraction.specs.Terms.{IsNarrow, num}
use Rattle.simplex_law.specs.Terms.{dot}
use Rattle.simplex_core.specs.Terms.{entry_of}
use Rattle.box_program.{proofs.Candidates.gains_there, proofs.Entries.are_entries}
use Rattle.box_program.proofs.program.candidate_at.Goals as goal

whole : (x : ℤ) → IsNarrow x → to_z w64 (of_z w64 x) ≡ x
whole x h = omega (arith, ints, h)

pub gains-requires-clause-entries : goal.gains-requires-clause-entries
gains-requires-clause-entries c =
    let columns = c.args.columns.now in
    let rated = c.index-columns-at.result in
    let there : slice_get columns c.args.at ≡ Some rated = slice_get_read columns (length columns) c.args.at rated refl c.requires.inside c.index-columns-at.is in
    rw c.items.ensures (are_entries (length c.args.duals.now.nums) rated.column.entries (c.requires.sound c.args.at rated there).entries).each

pub returns-then-not-gains : goal.returns-then-not-gains
returns-then-not-gains c gains =
    let columns = c.args.columns.now in
    let duals = c.args.duals.now in
    let rated = c.index-columns-at.result in
    let there : slice_get columns c.args.at ≡ Some rated = slice_get_read columns (length columns) c.args.at rated refl c.requires.inside c.index-columns-at.is in
    let gain = whole rated.column.gain (c.requires.sound c.args.at rated there).gain in
    let given = subst (λ g. dot (length duals.nums) (num duals.nums) (entry_of rated.column.entries) <ℤ (duals.den *ℤ g)) (sym gain) (gains_there columns duals c.args.at rated there gains) in
    false≢true (sym c.if-not-gains.true ∙ (rw c.items.ensures at c.gains.ensures.1) given)

pub invariant_of-result : goal.invariant_of-result
invariant_of-result c =
    let columns = c.args.columns.now in
    let rated = c.index-columns-at.result in
    let there : slice_get columns c.args.at ≡ Some rated = slice_get_read columns (length columns) c.args.at rated refl c.requires.inside c.index-columns-at.is in
    record { positive = (c.requires.sound c.args.at rated there).weight }

pub returns : goal.returns
returns c =
    let columns = c.args.columns.now in
    let duals = c.args.duals.now in
    let rated = c.index-columns-at.result in
    let there : slice_get columns c.args.at ≡ Some rated = slice_get_read columns (length columns) c.args.at rated refl c.requires.inside c.index-columns-at.is in
    let gain = whole rated.column.gain (c.requires.sound c.args.at rated there).gain in
    let given = (rw c.items.ensures at c.gains.ensures.0) c.if-not-gains.false in
    (refl, record { rated = rated; there = there; gains = subst (λ g. dot (length duals.nums) (num duals.nums) (entry_of rated.column.entries) <ℤ (duals.den *ℤ g)) gain given })
