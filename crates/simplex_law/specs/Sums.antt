-- sums of whole numbers, and rows times columns
use Rattle.std.specs.Prelude.{ℕ, ℤ, zero, suc, pos, ◌+ℤ◌, ◌*ℤ◌, cond, eqb}

-- the sum of the first n numbers
abbrev pub int_sum : ℕ → (ℕ → ℤ) → ℤ
int_sum zero f = pos 0
int_sum (suc n) f = int_sum n f +ℤ f n

-- the product of a row with a column of m rows
abbrev pub dot : ℕ → (ℕ → ℤ) → (ℕ → ℤ) → ℤ
dot m row column = int_sum m (λ k. row k *ℤ column k)

-- 1 at i, and 0 elsewhere
abbrev pub unit_vector : ℕ → ℕ → ℤ
unit_vector i j = cond (eqb i j) (pos 1) (pos 0)

-- f, with x at r
abbrev pub put : {X : Type 0} → (ℕ → X) → ℕ → X → ℕ → X
put f r x j = cond (eqb r j) x (f j)
