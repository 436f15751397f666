use Rattle.std.proofs.Common.{ℕ, ℤ, length, subst}
use Rattle.key_rows.{specs.FirstRoles.IsFirstOfRoles, specs.KeyRows.HaveValues, specs.Names.{demand_in, key_links}, specs.inner.Orders.IsBestRow, specs.inner.Tried.role_in, proofs.Trying.best_first_of_rows}
use Rattle.key_rows.proofs.ratio_test.leaving.Goals as goal

pub with_keys-requires-clause-first : goal.with_keys-requires-clause-first
with_keys-requires-clause-first c =
    let b = c.args.keyed.now in
    let name = c.args.name.now in
    let o = c.leaving_row-best.result in
    let rows = subst (λ xs. (rest : ℕ → ℤ) → HaveValues (length xs) xs rest c.items-2.result.now → IsBestRow (length xs) xs rest c.items-2.result.now c.items-3.result.now (length xs) o) c.items.ensures c.leaving_row-best.ensures.first in
    let values = subst (λ xs. (rest : ℕ → ℤ) → HaveValues (length b.rows) b.rows rest xs → IsBestRow (length b.rows) b.rows rest xs c.items-3.result.now (length b.rows) o) c.items-2.ensures rows in
    best_first_of_rows b name (key_links b.names b.places (length b.rows) (demand_in name)) o c.requires.products
    (subst (λ xs. (rest : ℕ → ℤ) → HaveValues (length b.rows) b.rows rest b.values → IsBestRow (length b.rows) b.rows rest b.values xs (length b.rows) o) c.items-3.ensures values)

pub returns-in-Some-clause-first : goal.returns-in-Some-clause-first
returns-in-Some-clause-first c = subst (λ o. IsFirstOfRoles c.args.keyed.now c.args.name.now (λ r. Unit {0}) (role_in o)) c.in-Some.is c.in_ok-best.ensures.first

pub returns-in-None-clause-first : goal.returns-in-None-clause-first
returns-in-None-clause-first c = subst (λ o. IsFirstOfRoles c.args.keyed.now c.args.name.now (λ r. Unit {0}) (role_in o)) c.in-None.is c.in_ok-best.ensures.first
