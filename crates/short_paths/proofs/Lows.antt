-- distances of a table are low
use Rattle.std.proofs.Common.{◌≡◌, ℕ, ◌^◌, ◌<◌, ◌≤◌, None, Some, eqb, length, slice_index, unwrap_or, arith, ⊎_elim, ◌==◌, min, max}
use Rattle.net_core.proofs.Library.{cases_lt, cond_both, eqb-false, get_or_past}
use Rattle.short_paths.{specs.declared.distance_table.DistanceTable.DistanceTable, specs.declared.distance_table.TheConstants.APART, specs.inner.Pairs.pair_place, specs.inner.Tables.answer_of, specs.DistanceTables.distance_at}

number_low : (t : DistanceTable) (k : ℕ) → unwrap_or (answer_of APART (slice_index t.pairs k)) 0 ≤ 2 ^ 39
number_low t k =
    let x = slice_index t.pairs k in
    ⊎_elim
    (λ (lt : k < length t.pairs). cond_both (eqb x APART) None (Some x) (λ o. unwrap_or o 0 ≤ 2 ^ 39) (λ _. omega arith) (λ far. omega (arith, t.low k 0 lt (eqb-false x APART far))))
    (λ past. let none : x ≡ 0 = get_or_past t.pairs k 0 past in rw none (omega arith))
    (cases_lt k (length t.pairs))

-- the distance of any two nodes, where nodes that are apart count 0
pub table_low : (t : DistanceTable) (a b : ℕ) → unwrap_or (distance_at t a b) 0 ≤ 2 ^ 39
table_low t a b =
    let place = pair_place (min a b) (max a b) in
    cond_both (a == b) (Some 0) (answer_of APART (slice_index t.pairs place)) (λ o. unwrap_or o 0 ≤ 2 ^ 39) (λ _. omega arith) (λ _. number_low t place)
