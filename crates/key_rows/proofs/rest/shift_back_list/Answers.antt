use Rattle.std.proofs.Common.{◌≡◌, w64, to_z, of_z, ◌∙◌, arith}
use Rattle.net_core.proofs.Library.{ints}
use Rattle.checked_fraction.specs.Terms.{num}
use Rattle.key_rows.{specs.Names.path_uses, proofs.Shifting.shifted_back}
use Rattle.key_rows.proofs.rest.shift_back_list.Goals as goal

pub returns-clause-each : goal.returns-clause-each
returns-clause-each c =
    let back : to_z w64 (of_z w64 c.negated.result) ≡ c.negated.result = omega (arith, ints, c.negated.ensures.narrow) in
    λ k. shifted_back c.args.by.now _ (path_uses c.args.path.now k) (num c.args.rest.now k) _ (back ∙ c.negated.ensures.value) (c.shift_list.ensures.each k)
