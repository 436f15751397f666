-- how many columns of a basis are in each row
use Rattle.std.proofs.Common.{◌≡◌, ℕ, zero, suc, ◌+◌, ◌-◌, ◌<◌, ◌≤◌, List, Bool, true, false, cond, eqb, length, nat_lt, refl, sym, ap, ◌∙◌, arith, ⊎_elim, eq-eqb, ℤ, pos, ◌≤ℤ◌}
use Rattle.net_core.proofs.Library.{cases_lt, ints, by_lt_z}
use Rattle.plan_terms.specs.Terms.{RouteColumn, LinkSlack, DemandSlack, Carry, LinkId, Graph, names_link, sum_below}
use Rattle.simplex_law.{specs.Terms.int_sum, proofs.Lemmas.sum-same}
use Rattle.route_law.{specs.Terms.beside, proofs.Lemmas.{below_term, beside_after, sum-pos}}
use Rattle.row_cuts.proofs.Columns.{name_entry}

abbrev one_if : Bool → ℕ
one_if t = cond t 1 0

-- the entries of a column
abbrev pub name_count : Graph → RouteColumn → ℕ → ℕ
name_count g (LinkSlack link) k = one_if (eqb link.0 k)
name_count g (DemandSlack demand) k = one_if (eqb (length g.links + demand) k)
name_count g (Carry demand path) k = beside (length g.links) (λ e. one_if (names_link e path)) (λ q. one_if (eqb demand q)) k

pos_one : (t : Bool) → pos (one_if t) ≡ cond t (pos 1) (pos 0)
pos_one true = refl
pos_one false = refl

at_most : (t : Bool) → one_if t ≤ 1
at_most true = omega arith
at_most false = omega arith

chosen : (t a b : Bool) → pos (cond t (one_if a) (one_if b)) ≡ cond t (cond a (pos 1) (pos 0)) (cond b (pos 1) (pos 0))
chosen true a b = pos_one a
chosen false a b = pos_one b

chosen_most : (t a b : Bool) → cond t (one_if a) (one_if b) ≤ 1
chosen_most true a b = at_most a
chosen_most false a b = at_most b

pub entry_count : (g : Graph) (name : RouteColumn) (k : ℕ) → pos (name_count g name k) ≡ name_entry g name k
entry_count g (LinkSlack link) k = pos_one (eqb link.0 k)
entry_count g (DemandSlack d) k = pos_one (eqb (length g.links + d) k)
entry_count g (Carry d path) k = chosen (nat_lt k (length g.links)) (names_link k path) (eqb d (k - length g.links))

pub count_most : (g : Graph) (name : RouteColumn) (k : ℕ) → name_count g name k ≤ 1
count_most g (LinkSlack link) k = at_most (eqb link.0 k)
count_most g (DemandSlack d) k = at_most (eqb (length g.links + d) k)
count_most g (Carry d path) k = chosen_most (nat_lt k (length g.links)) (names_link k path) (eqb d (k - length g.links))

-- how many of the first n columns are in row k
abbrev pub standing : Graph → (ℕ → RouteColumn) → ℕ → ℕ → ℕ
standing g names n k = sum_below n (λ j. name_count g (names j) k)

pub standing_is : (g : Graph) (names : ℕ → RouteColumn) (n k : ℕ) → pos (standing g names n k) ≡ int_sum n (λ j. name_entry g (names j) k)
standing_is g names n k = sym (sum-pos n (λ j. name_count g (names j) k)) ∙ sum-same n _ _ (λ j l. entry_count g (names j) k)

below_ones : (n : ℕ) (f : ℕ → ℕ) → ((j : ℕ) → f j ≤ 1) → sum_below n f ≤ n
below_ones zero f low = omega arith
below_ones (suc n) f low = omega (arith, low n, below_ones n f low)

pub standing_most : (g : Graph) (names : ℕ → RouteColumn) (n k : ℕ) → standing g names n k ≤ n
standing_most g names n k = below_ones n (λ j. name_count g (names j) k) (λ j. count_most g (names j) k)

-- a path of a demand is in the demand's row
pub some_standing : (g : Graph) (names : ℕ → RouteColumn) (n j d : ℕ) (path : List LinkId) → j < n → names j ≡ Carry d path → 0 < standing g names n (length g.links + d)
some_standing g names n j d path l is =
    let one : name_count g (names j) (length g.links + d) ≡ 1 =
    ap (λ name. name_count g name (length g.links + d)) is ∙ (beside_after (length g.links) (λ e. one_if (names_link e path)) (λ q. one_if (eqb d q)) d ∙ ap one_if (eq-eqb d d refl)) in
    omega (arith, one, below_term n (λ i. name_count g (names i) (length g.links + d)) j l)

-- the place of the greatest of some numbers
pub greatest_place : (n : ℕ) (f : ℕ → ℤ) → 0 < n → (t : ℕ) × (t < n) × ((k : ℕ) → k < n → f k ≤ℤ f t)
greatest_place zero f some = absurd (omega (arith, some))
greatest_place (suc zero) f some = (0, omega arith, λ k l. let e : k ≡ 0 = omega (arith, l) in omega (arith, ints, ap f e))
greatest_place (suc (suc n)) f some =
    let before = greatest_place (suc n) f (omega arith) in
    by_lt_z (f before.0) (f (suc n))
    (λ more. (
      suc n,
      omega arith,
      λ k l. ⊎_elim
          (λ lt. omega (arith, ints, more, before.2 k lt))
          (λ ge. let e : k ≡ suc n = omega (arith, ge, l) in omega (arith, ints, ap f e))
          (cases_lt k (suc n)),
    ))
    (λ less. (
      before.0,
      omega (arith, before.1),
      λ k l. ⊎_elim
          (λ lt. before.2 k lt)
          (λ ge. let e : k ≡ suc n = omega (arith, ge, l) in omega (arith, ints, ap f e, less))
          (cases_lt k (suc n)),
    ))
