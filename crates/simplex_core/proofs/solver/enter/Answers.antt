use Rattle.std.proofs.Common.{length, ◌≡◌, ◌∙◌, subst, refl, arith, ◌-ℤ◌, ◌*ℤ◌, to_z, of_z, Ok}
use Rattle.net_core.proofs.Library.{w128, ints}
use Rattle.checked_fraction.specs.Terms.{num}
use Rattle.simplex_law.specs.Terms.{dot, ColumnOf}
use Rattle.simplex_core.{specs.Columns.{column_from, entry_of}, specs.inner.Ratios.IsLeavingRow, specs.declared.basis.Basis.Basis, proofs.Turning.{picks, enters_as_well}}
use Rattle.simplex_core.proofs.solver.enter.Goals as goal

pub returns-in-Ok-Some : goal.returns-in-Ok-Some
returns-in-Ok-Some g c =
    let old = c.args.basis.now in
    let m = length old.rows in
    let products = c.write_list.new.products in
    let column : ColumnOf g.row.N.Denot = column_from c.args.name c.args.gain.now c.args.entries.now in
    let dots = c.in_default-write_list.ensures.products in
    let back : to_z w128 (of_z w128 c.in-Some.cost) ≡ c.in-Some.cost = omega (arith, ints, c.in-Some.ensures.1) in
    let cost = subst (λ n. c.in-Some.cost ≡ dot n (num old.duals.nums) (entry_of c.args.entries.now) -ℤ old.duals.den *ℤ c.args.gain.now) c.requires.shaped.duals c.in-Some.ensures.0 in
    let first = subst (λ o. IsLeavingRow m old.rows old.bounds products (Ok o)) c.in-Ok-Some.field-0-is c.in-Ok-Some.ensures in
    let with : Basis g.row.N.Denot = record { names = old.names; rows = old.rows; duals = old.duals; bounds = old.bounds; products = products; spare = old.spare } in
    enters_as_well m old products column c.pivot_at.result c.pivot_at.new.basis
    (c.pivot_at.ensures column (record {
      named = refl;
      priced = back ∙ cost;
      products = λ i l. (dots i l).0;
      picks = picks m with products column c.in-Ok-Some.r (λ i l. (dots i l).0) c.requires.gains first.0 first.1 first.2;
    }))
