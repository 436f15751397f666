-- the modules that a state leaves
use Rattle.std.proofs.Common.{◌≡◌, ℕ, zero, suc, ◌+◌, ◌<◌, ◌≤◌, ⊎_elim, false, List, [], ◌∷◌, length, map, slice_index, slice_index_or, refl, ap, sym, ◌∙◌, arith, if◌then◌else◌, ext_get_or}
use Rattle.net_core.proofs.Library.{cases_lt, get_or-map-range_with_len, get_or_past, length-map-range_with_len, range_with_len}
use Rattle.module_choice.proofs.Pairs.{counts_long}
use Rattle.plan_terms.specs.Terms.{AreCounts, Case, Link, capacities, fails}
use Rattle.line_check.{specs.Inequalities.{entry, module_number, table_of}, specs.Laws.surviving_counts}

-- ---- tables of modules

rows_shape : (row : ℕ → List ℕ) (links : List Link) (a : ℕ) → ((i : ℕ) → i < length links → length (row (a + i)) ≡ module_number links i) → AreCounts links (map row (range_with_len a (length links)))
rows_shape row [] a h = tt
rows_shape row (l ∷ ls) a h =
    let here : a ≡ a + 0 = omega arith in (
      ap (λ k. length (row k)) here ∙ h 0 (omega arith),
      rows_shape row ls (a + 1) (λ i lt. let on : a + 1 + i ≡ a + suc i = omega arith in ap (λ k. length (row k)) on ∙ h (suc i) (omega (arith, lt))),
    )

-- a table has one number for each module
pub table_shape : (links : List Link) (f : ℕ → ℕ → ℕ) → AreCounts links (table_of links f)
table_shape links f =
    rows_shape (λ e. map (f e) (range_with_len 0 (module_number links e))) links 0
    (λ i lt. let same : 0 + i ≡ i = omega arith in
    length-map-range_with_len (f (0 + i)) 0 (module_number links (0 + i)) ∙ ap (λ k. module_number links k) same)

pub table_row : (links : List Link) (f : ℕ → ℕ → ℕ) (e : ℕ) → e < length links → slice_index_or (table_of links f) e [] ≡ map (f e) (range_with_len 0 (module_number links e))
table_row links f e here = get_or-map-range_with_len (λ i. map (f i) (range_with_len 0 (module_number links i))) 0 (length links) e e [] here (omega arith)

-- the numbers of a list, one by one
each_number : (xs : List ℕ) (n : ℕ) → length xs ≡ n → map (λ m. slice_index xs m) (range_with_len 0 n) ≡ xs
each_number xs n same =
    let long = length-map-range_with_len (λ m. slice_index xs m) 0 n in
    ext_get_or 0 (map (λ m. slice_index xs m) (range_with_len 0 n)) xs (long ∙ sym same)
    (λ i lt. get_or-map-range_with_len (λ m. slice_index xs m) 0 n i i 0 (omega (arith, lt, long)) (omega arith))

-- ---- counts, link by link

counts_row : (links : List Link) (counts : List (List ℕ)) → AreCounts links counts → (e : ℕ) → length (slice_index_or counts e []) ≡ module_number links e
counts_row [] [] shape e = refl
counts_row [] (c ∷ cs) shape e = absurd shape
counts_row (l ∷ ls) [] shape e = absurd shape
counts_row (l ∷ ls) (c ∷ cs) shape zero = shape.0
counts_row (l ∷ ls) (c ∷ cs) shape (suc e) = counts_row ls cs shape.1 e

-- equal counts of a link give it equal capacities
same_capacity : (links : List Link) (a b : List (List ℕ)) → AreCounts links a → AreCounts links b → (e : ℕ) → slice_index_or a e [] ≡ slice_index_or b e [] → slice_index (capacities links a) e ≡ slice_index (capacities links b) e
same_capacity [] [] [] one other e same = refl
same_capacity [] (c ∷ cs) b one other e same = absurd one
same_capacity [] [] (d ∷ ds) one other e same = absurd other
same_capacity (l ∷ ls) [] b one other e same = absurd one
same_capacity (l ∷ ls) (c ∷ cs) [] one other e same = absurd other
same_capacity (l ∷ ls) (c ∷ cs) (d ∷ ds) one other zero same = ap (λ x. slice_index (capacities (l ∷ ls) (x ∷ cs)) 0) same
same_capacity (l ∷ ls) (c ∷ cs) (d ∷ ds) one other (suc e) same = same_capacity ls cs ds one.1 other.1 e same

module _ (p : Case) (s : ℕ) (counts : List (List ℕ)) (shape : AreCounts p.links counts) where
  pub surviving_shape : AreCounts p.links (surviving_counts p s counts)
  surviving_shape = table_shape p.links (λ e m. if fails p.listed s e then 0 else entry counts e m)

  row_left : (e : ℕ) → fails p.listed s e ≡ false → slice_index_or (surviving_counts p s counts) e [] ≡ slice_index_or counts e []
  row_left e unfailed = ⊎_elim
      (λ (here : e < length p.links).
      let row = table_row p.links (λ i m. if fails p.listed s i then 0 else entry counts i m) e here in
      let left = ap (λ b. map (λ m. if b then 0 else entry counts e m) (range_with_len 0 (module_number p.links e))) unfailed in
      row ∙ left ∙ each_number (slice_index_or counts e []) (module_number p.links e) (counts_row p.links counts shape e))
      (λ (past : length p.links ≤ e).
      get_or_past (surviving_counts p s counts) e [] (omega (arith, past, counts_long p.links (surviving_counts p s counts) surviving_shape))
      ∙ sym (get_or_past counts e [] (omega (arith, past, counts_long p.links counts shape))))
      (cases_lt e (length p.links))

  -- a link that the state doesn't fail keeps its capacity
  pub capacity_left : (e : ℕ) → fails p.listed s e ≡ false → slice_index (capacities p.links (surviving_counts p s counts)) e ≡ slice_index (capacities p.links counts) e
  capacity_left e unfailed = same_capacity p.links (surviving_counts p s counts) counts surviving_shape shape e (row_left e unfailed)
