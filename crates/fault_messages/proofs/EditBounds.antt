-- no fewer edits lead from one name to another than their lengths differ by
use Rattle.std.{proofs.Common.{ℕ, zero, suc, ◌+◌, ◌≤◌, Bool, List, [], ◌∷◌, length, nat_eq, arith}, proofs.lemmas.Int.clamps}
use Rattle.strsim.specs.Edits.{cost_at, next_row, rows}
use Rattle.fault_messages.specs.NearNames.{edits}

-- what a row of the table has at a place is at least the difference of the place and the row's number
abbrev pub IsRowNumbered : ℕ → (ℕ → ℕ) → Type 0
IsRowNumbered n row = (j : ℕ) → (j ≤ n + row j) × (n ≤ j + row j)

-- what the next row has at a place is at least the difference of the place and that row's number
next_is_numbered : (c before : ℕ → ℕ) (n : ℕ) → IsRowNumbered n before → IsRowNumbered (suc n) (next_row c before (suc n))
unfolding next_row
next_is_numbered c before n so zero = (omega arith, omega arith)
next_is_numbered c before n so (suc j) =
    let beside = next_is_numbered c before n so j in
    let across = so j in
    let above = so (suc j) in
    (omega (arith, clamps, beside.0, across.0, above.0), omega (arith, clamps, beside.1, across.1, above.1))

-- and the row after all elements
rows_are_numbered : {T : Type 0} (eq : T → T → Bool) (xs ys : List T) (n : ℕ) (before : ℕ → ℕ) → IsRowNumbered n before
    → IsRowNumbered (n + length xs) (rows eq xs ys n before)
unfolding rows
rows_are_numbered eq [] ys n before so j = (omega (arith, (so j).0), omega (arith, (so j).1))
rows_are_numbered eq (x ∷ xs) ys n before so j =
    let rest = rows_are_numbered eq xs ys (suc n) (next_row (cost_at eq x ys) before (suc n)) (next_is_numbered (cost_at eq x ys) before n so) j in
    (omega (arith, rest.0), omega (arith, rest.1))

-- the edits are at least the difference of the lengths
pub edits_bound : (name other : List ℕ) → (length other ≤ length name + edits name other) × (length name ≤ length other + edits name other)
edits_bound name other =
    let so = rows_are_numbered nat_eq name other 0 (λ j. j) (λ j. (omega arith, omega arith)) (length other) in
    (omega (arith, so.0), omega (arith, so.1))
