-- tables gathered one after another
use Rattle.std.proofs.Common.{◌≡◌, ℕ, ◌+◌, ◌<◌, List, [], ◌∷◌, ◌++◌, length, get_or, ⊎_elim, sym, subst, ◌∙◌, arith, length-append}
use Rattle.net_core.proofs.Library.{∥∥₁_elim, props, cases_lt, get_or_append_left, get_or_default, get_or_push}
use Rattle.short_paths.{specs.inner.TightLinks.AreTables, specs.inner.Tables.IsTable}

module _ (joins : ℕ → ℕ → ℕ → Type 0) (lengths : List ℕ) (far n : ℕ) where
  -- the tables of the first k nodes
  pub record RowsBelow (k : ℕ) (rows : List (List ℕ)) : Type 0 where
    pub count : length rows ≡ k
    pub sizes : (t : ℕ) → t < k → length (get_or rows t []) ≡ n
    pub tables : (t : ℕ) → t < k → IsTable joins lengths far t (get_or rows t [])

  pub rows_more : (k : ℕ) (rows : List (List ℕ)) (row : List ℕ) → RowsBelow k rows → length row ≡ n → IsTable joins lengths far k row → RowsBelow (k + 1) (rows ++ row ∷ [])
  rows_more k rows row below size table = record {
    count = omega (arith, length-append rows (row ∷ []), below.count);
    sizes = λ t lt. ⊎_elim
        (λ before. subst (λ (r : List ℕ). length r ≡ n) (sym (get_or_append_left rows (row ∷ []) [] t (omega (arith, below.count)))) (below.sizes t before))
        (λ past. let same : t ≡ k = omega arith in
        subst (λ (r : List ℕ). length r ≡ n) (sym (get_or_push rows row [] t (omega (arith, below.count)))) size)
        (cases_lt t k);
    tables = λ t lt. ⊎_elim
        (λ before. subst (IsTable joins lengths far t) (sym (get_or_append_left rows (row ∷ []) [] t (omega (arith, below.count)))) (below.tables t before))
        (λ past. let same : t ≡ k = omega arith in
        subst (IsTable joins lengths far t) (sym (get_or_push rows row [] t (omega (arith, below.count)))) (subst (λ x. IsTable joins lengths far x row) (sym same) table))
        (cases_lt t k);
  }

module _ (joins : ℕ → ℕ → ℕ → Type 0) (lengths : List ℕ) (far n : ℕ) (rows : List (List ℕ)) (are : ∥ AreTables joins lengths far n rows ∥₁) (t : ℕ) (row : List ℕ) (lt : t < n) (is : row ≡ get_or rows t row) where
  same_row : AreTables joins lengths far n rows → get_or rows t [] ≡ row
  same_row all = get_or_default rows t [] row (omega (arith, lt, all.count)) ∙ sym is

  -- the table of a node is one of them
  pub row_size : length row ≡ n
  row_size = ∥∥₁_elim are (hlevel props) (λ all. subst (λ (r : List ℕ). length r ≡ n) (same_row all) (all.sizes t lt))

  pub row_table : ∥ IsTable joins lengths far t row ∥₁
  row_table = ∥∥₁_elim are (hlevel props) (λ all. ∣ subst (IsTable joins lengths far t) (same_row all) (all.tables t lt) ∣₁)
