-- the products of a row with entries, one after another
use Rattle.std.proofs.Common.{◌≡◌, ℕ, zero, suc, ◌<◌, ◌≤◌, ◌+◌, List, [], ◌∷◌, length, drop, get_or, refl, subst, arith, ℤ, pos, ◌+ℤ◌, ◌*ℤ◌}
use Rattle.net_core.proofs.Library.{AllByRecursion}
use Rattle.simplex_law.proofs.Lemmas.{entry_dot}
use Rattle.simplex_core.{specs.Columns.IsEntry, specs.declared.columns.Entry.Entry}

-- the product of a row with entries
abbrev pub entries_dot : (ℕ → ℤ) → List Entry → ℤ
entries_dot = entry_dot (λ e. e.row) (λ e. e.value)

dot_after : (nums : ℕ → ℤ) (es : List Entry) (k : ℕ) (d : Entry) → k < length es
    → entries_dot nums (drop k es) ≡ (nums (get_or es k d).row *ℤ (get_or es k d).value) +ℤ entries_dot nums (drop (suc k) es)
dot_after nums [] k d lt = absurd (omega arith)
dot_after nums (e ∷ es) zero d lt = refl
dot_after nums (e ∷ es) (suc k) d lt = dot_after nums es k d (omega arith)

-- the product of the entry at k and those after it
pub dot_rest : (nums : ℕ → ℤ) (es : List Entry) (k : ℕ) (d : Entry) → k < length es
    → entries_dot nums (drop k es) ≡ (nums (get_or es k d).row *ℤ (get_or es k d).value) +ℤ entries_dot nums (drop (k + 1) es)
dot_rest nums es k d lt =
    let next : suc k ≡ k + 1 = omega arith in
    subst (λ n. entries_dot nums (drop k es) ≡ (nums (get_or es k d).row *ℤ (get_or es k d).value) +ℤ entries_dot nums (drop n es)) next (dot_after nums es k d lt)

pub dot_end : (nums : ℕ → ℤ) (es : List Entry) (k : ℕ) → length es ≤ k → entries_dot nums (drop k es) ≡ pos 0
dot_end nums [] zero le = refl
dot_end nums [] (suc k) le = refl
dot_end nums (e ∷ es) zero le = absurd (omega arith)
dot_end nums (e ∷ es) (suc k) le = dot_end nums es k (omega arith)

pub inside_all : (m : ℕ) (es : List Entry) → AllByRecursion (IsEntry m) es → AllByRecursion (λ e. e.row < m) es
inside_all m [] all = tt
inside_all m (e ∷ es) all = (all.0.inside, inside_all m es all.1)
