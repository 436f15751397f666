-- a row's numbers along a path, one after another
use Rattle.std.proofs.Common.{◌≡◌, ℕ, zero, suc, ◌<◌, ◌≤◌, ◌+◌, List, [], ◌∷◌, length, drop, get_or, refl, subst, arith, ℤ, pos, ◌+ℤ◌}
use Rattle.net_core.{proofs.Library.{ints, AllByRecursion}, specs.declared.ids.LinkId.LinkId}
use Rattle.simplex_law.proofs.Lemmas.{entry_dot}

-- the sum of numbers at the links of a path
abbrev pub path_total : (ℕ → ℤ) → List LinkId → ℤ
path_total = entry_dot (λ l. l.0) (λ l. pos 1)

sum_after : (nums : ℕ → ℤ) (path : List LinkId) (k : ℕ) (d : LinkId) → k < length path → path_total nums (drop k path) ≡ nums (get_or path k d).0 +ℤ path_total nums (drop (suc k) path)
sum_after nums [] k d lt = absurd (omega arith)
sum_after nums (l ∷ path) zero d lt = omega (arith, ints)
sum_after nums (l ∷ path) (suc k) d lt = sum_after nums path k d (omega arith)

pub sum_rest : (nums : ℕ → ℤ) (path : List LinkId) (k : ℕ) (d : LinkId) → k < length path → path_total nums (drop k path) ≡ nums (get_or path k d).0 +ℤ path_total nums (drop (k + 1) path)
sum_rest nums path k d lt =
    let next : suc k ≡ k + 1 = omega arith in
    subst (λ n. path_total nums (drop k path) ≡ nums (get_or path k d).0 +ℤ path_total nums (drop n path)) next (sum_after nums path k d lt)

pub sum_end : (nums : ℕ → ℤ) (path : List LinkId) (k : ℕ) → length path ≤ k → path_total nums (drop k path) ≡ pos 0
sum_end nums [] zero le = refl
sum_end nums [] (suc k) le = refl
sum_end nums (l ∷ path) zero le = absurd (omega arith)
sum_end nums (l ∷ path) (suc k) le = sum_end nums path k (omega arith)

pub link_inside : (m : ℕ) (path : List LinkId) (k : ℕ) (d : LinkId) → AllByRecursion (λ l. l.0 < m) path → k < length path → (get_or path k d).0 < m
link_inside m [] k d all lt = absurd (omega arith)
link_inside m (l ∷ path) zero d all lt = all.0
link_inside m (l ∷ path) (suc k) d all lt = link_inside m path k d all.1 (omega arith)
