use Rattle.std.proofs.Common.{◌≡◌, length, to_z, of_z, sym, subst, ◌∙◌, arith, refl}
use Rattle.net_core.proofs.Library.{w128, ints}
use Rattle.checked_fraction.specs.Terms.{num}
use Rattle.simplex_law.{specs.Terms.dot, proofs.Lemmas.dot-unit}
use Rattle.key_rows.specs.Names.{uses, IsNameWithin}
use Rattle.key_rows.proofs.sums.name_sum.Goals as goal

pub returns-in-LinkSlack-clause-value : goal.returns-in-LinkSlack-clause-value
returns-in-LinkSlack-clause-value c =
    let nums = c.args.nums.now in
    let back : to_z w128 (of_z w128 c.number_at.result) ≡ c.number_at.result = omega (arith, ints, c.number_at.ensures.bound) in
    let inside = subst (λ x. IsNameWithin (length nums) x) c.in-LinkSlack.is c.requires.name in
    back ∙ (c.number_at.ensures.value ∙ subst (λ x. num nums c.in-LinkSlack.link.0 ≡ dot (length nums) (num nums) (uses x)) (sym c.in-LinkSlack.is)
    (sym (dot-unit (length nums) c.in-LinkSlack.link.0 (num nums) _ inside (λ k l. refl))))
