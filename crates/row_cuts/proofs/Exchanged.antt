-- the basis in which a demand's slack has taken the place of the column of a row, and the rows of its inverse
use Rattle.std.proofs.Common.{◌≡◌, ◌≢◌, ℕ, ◌+◌, ◌<◌, List, true, false, cond, eqb, length, refl, sym, ap, ◌∙◌, arith, subst, ⊎_elim, eq-eqb, ne_eqb, ℤ, pos, ◌-ℤ◌, ◌*ℤ◌, ◌<ℤ◌}
use Rattle.net_core.proofs.Library.{ints, cases_eq, *ℤ-zero, slice_get_within}
use Rattle.checked_fraction.{specs.Terms.combined, proofs.Products.positive_product}
use Rattle.plan_terms.specs.Terms.{RouteColumn, LinkSlack, DemandSlack, Carry, LinkId, Demand, Graph}
use Rattle.simplex_law.{specs.Terms.{dot, put, unit_vector, ColumnOf, IsRow}, proofs.Lemmas.{distribute_minus, minus_left, dot-same, sum-same, sum-minus, sum-none, unit-other}, proofs.Rows.{next_row, pivot_row}}
use Rattle.key_law.specs.Keys.{AreRoles, AreKeys, key_part, block}
use Rattle.route_law.{specs.Terms.beside, proofs.Lemmas.{beside_first, beside_after}}
use Rattle.row_cuts.{specs.KeyPaths.{on_path, row_along, beyond_key, IsBesideKeys, IsPathBasis}, proofs.Columns.{named, name_entry, IsThere, path_link, path_demand, left_is}}

-- the product with 0 less each number
minus_row : (m : ℕ) (u v : ℕ → ℤ) → dot m (λ k. pos 0 -ℤ u k) v ≡ pos 0 -ℤ dot m u v
minus_row m u v =
    sum-same m _ (λ k. pos 0 -ℤ (u k *ℤ v k)) (λ k l. flip (u k) (v k))
    ∙ (sum-minus m (λ k. pos 0) (λ k. u k *ℤ v k) ∙ ap (λ s. s -ℤ dot m u v) (sum-none m))
  where
    flip : (x y : ℤ) → (pos 0 -ℤ x) *ℤ y ≡ pos 0 -ℤ (x *ℤ y)
    flip x y = distribute_minus (pos 0) x y ∙ omega (arith, ints)

minus_column : (m : ℕ) (u v : ℕ → ℤ) → dot m u (λ k. pos 0 -ℤ v k) ≡ pos 0 -ℤ dot m u v
minus_column m u v =
    sum-same m _ (λ k. pos 0 -ℤ (u k *ℤ v k)) (λ k l. flip (u k) (v k))
    ∙ (sum-minus m (λ k. pos 0) (λ k. u k *ℤ v k) ∙ ap (λ s. s -ℤ dot m u v) (sum-none m))
  where
    flip : (x y : ℤ) → x *ℤ (pos 0 -ℤ y) ≡ pos 0 -ℤ (x *ℤ y)
    flip x y = minus_left (pos 0) y x ∙ omega (arith, ints, *ℤ-zero x)

-- roles that are the places themselves
abbrev pub same_place : ℕ → ℕ
same_place x = x

pub same_roles : (m : ℕ) → AreRoles m same_place same_place
same_roles m = record { place_in = λ r l. l; role_in = λ j l. l; there = λ r l. refl; back = λ j l. refl }

-- the names of the columns, the block's first, then the keys
abbrev pub name_at : Graph → (ℕ → List LinkId) → (ℕ → RouteColumn) → ℕ → ℕ → ℕ → RouteColumn
name_at g keys columns r top = beside (length g.links) (put columns r (DemandSlack top)) (λ d. Carry d (keys d))

abbrev pub basis_at : Graph → (ℕ → List LinkId) → (ℕ → RouteColumn) → ℕ → ℕ → ℕ → ColumnOf RouteColumn
basis_at g keys columns r top j = named g (name_at g keys columns r top j)

module _ (g : Graph) (ds : List Demand) (keys : ℕ → List LinkId) (columns : ℕ → RouteColumn) (rows : ℕ → ℕ → ℤ) (dens : ℕ → ℤ) (r top : ℕ)
    (lr : r < length g.links) (lt : top < length ds) (h : IsPathBasis g ds keys columns rows dens) where
  abbrev links : ℕ
  links = length g.links

  abbrev demands : ℕ
  demands = length ds

  abbrev names : ℕ → RouteColumn
  names = name_at g keys columns r top

  abbrev basis : ℕ → ColumnOf RouteColumn
  basis = basis_at g keys columns r top

  pub key_name : (d : ℕ) → names (links + d) ≡ Carry d (keys d)
  key_name d = beside_after links (put columns r (DemandSlack top)) (λ k. Carry k (keys k)) d

  -- what holds of the slack, and of the other columns, holds of the block
  pub at_block : (P : RouteColumn → Type 0) (j : ℕ) → j < links → (r ≡ j → P (DemandSlack top)) → (r ≢ j → P (columns j)) → P (names j)
  at_block P j l one others = subst P (sym (beside_first links (put columns r (DemandSlack top)) (λ k. Carry k (keys k)) j l))
      (⊎_elim
      (λ e. subst (λ t. P (cond t (DemandSlack top) (columns j))) (sym (eq-eqb r j e)) (one e))
      (λ ne. subst (λ t. P (cond t (DemandSlack top) (columns j))) (sym (ne_eqb r j ne)) (others ne))
      (cases_eq r j))

  beside_there : (c : RouteColumn) → IsBesideKeys g ds c → IsThere links demands c
  beside_there (LinkSlack link) is = is
  beside_there (DemandSlack d) is = absurd is
  beside_there (Carry d path) is = slice_get_within ds d is.demand is.at

  pub block_there : (j : ℕ) → j < links → IsThere links demands (names j)
  block_there j l = at_block (IsThere links demands) j l (λ e. lt) (λ ne. beside_there (columns j) (h.beside j l))

  pub key_columns : (d k : ℕ) → d < demands → k < links → key_part links demands basis same_place d k ≡ on_path (keys d) k
  key_columns d k ld lk = ap (λ name. name_entry g name k) (key_name d) ∙ path_link g demands keys d (keys d) k lk

  pub keys_are : AreKeys links demands basis same_place
  keys_are d e ld le = ap (λ name. name_entry g name (links + e)) (key_name d) ∙ path_demand g demands keys d (keys d) e

  -- the columns of the block, before the exchange and after it
  abbrev before : ℕ → ℕ → ℤ
  before j = beyond_key keys (columns j)

  abbrev entering : ℕ → ℤ
  entering = beyond_key keys (DemandSlack top)

  pub block_named : (j k : ℕ) → j < links → k < links → block links demands basis same_place j k ≡ beyond_key keys (names j) k
  block_named j k lj lk = left_is g demands keys (key_part links demands basis same_place) key_columns (names j) k (block_there j lj) lk

  block_is : (j k : ℕ) → j < links → k < links → block links demands basis same_place j k ≡ put before r entering j k
  block_is j k lj lk =
      block_named j k lj lk
      ∙ (ap (λ name. beyond_key keys name k) (beside_first links (put columns r (DemandSlack top)) (λ d. Carry d (keys d)) j lj)
      ∙ (elim (eqb r j) as (λ t. beyond_key keys (cond t (DemandSlack top) (columns j)) k ≡ cond t entering (before j) k) [ true ↦ refl | false ↦ refl ]))

  -- what the row takes of the longest key
  abbrev pub longest : ℤ
  longest = row_along links (rows r) (keys top)

  abbrev turned_row : ℕ → ℤ
  turned_row k = pos 0 -ℤ rows r k

  -- the row is that of the pivot, and its product with the column that enters is minus the longest key's length
  pub row_at_entering : dot links (rows r) entering ≡ pos 0 -ℤ longest
  row_at_entering = minus_column links (rows r) (on_path (keys top))

  at_entering : dot links turned_row entering ≡ longest
  at_entering = minus_row links (rows r) entering ∙ omega (arith, ints, row_at_entering)

  turned_pivot : IsRow links before (unit_vector r) turned_row (pos 0 -ℤ dens r)
  turned_pivot j l = minus_row links (rows r) (before j) ∙ (ap (λ x. pos 0 -ℤ x) (h.inverse r j lr l) ∙ flip (dens r) (unit_vector r j))
    where
      flip : (x y : ℤ) → pos 0 -ℤ (x *ℤ y) ≡ (pos 0 -ℤ x) *ℤ y
      flip x y = omega (arith, ints, distribute_minus (pos 0) x y)

  -- the rows of the block's inverse
  abbrev pub new_row : ℕ → ℕ → ℤ
  new_row i = cond (eqb r i) turned_row (combined (rows i) (dot links (rows i) entering) turned_row longest)

  abbrev pub new_den : ℕ → ℤ
  new_den i = cond (eqb r i) longest (dens i *ℤ longest)

  other_row : (i : ℕ) → i < links → r ≢ i → IsRow links (put before r entering) (unit_vector i) (combined (rows i) (dot links (rows i) entering) turned_row longest) (dens i *ℤ longest)
  other_row i li ne j lj =
      next_row links r before (unit_vector i) (rows i) turned_row entering (dens i) (pos 0 -ℤ dens r) (dot links (rows i) entering) longest (pos 0)
      (λ k lk. h.inverse i k li lk) turned_pivot at_entering (nothing (dot links (rows i) entering) (dens i)) j lj
      ∙ ap (λ x. (dens i *ℤ longest) *ℤ x) (⊎_elim
      (λ e. ap (λ t. cond t (pos 0) (unit_vector i j)) (eq-eqb r j e) ∙ sym (unit-other i j (λ z. ne (e ∙ sym z))))
      (λ other. ap (λ t. cond t (pos 0) (unit_vector i j)) (ne_eqb r j other))
      (cases_eq r j))
    where
      nothing : (x d : ℤ) → x ≡ x -ℤ (d *ℤ pos 0)
      nothing x d = omega (arith, ints)

  pub new_rows : (i : ℕ) → i < links → IsRow links (block links demands basis same_place) (unit_vector i) (new_row i) (new_den i)
  new_rows i li j lj =
      dot-same links (new_row i) (new_row i) (block links demands basis same_place j) (put before r entering j) (λ k l. refl) (λ k l. block_is j k lj l)
      ∙ ⊎_elim
      (λ e. subst (λ t. dot links (cond t turned_row (combined (rows i) (dot links (rows i) entering) turned_row longest)) (put before r entering j) ≡ cond t longest (dens i *ℤ longest) *ℤ unit_vector i j) (sym (eq-eqb r i e))
      (subst (λ x. dot links turned_row (put before r entering j) ≡ longest *ℤ unit_vector x j) e (pivot_row links r before turned_row entering (pos 0 -ℤ dens r) longest turned_pivot at_entering j lj)))
      (λ ne. subst (λ t. dot links (cond t turned_row (combined (rows i) (dot links (rows i) entering) turned_row longest)) (put before r entering j) ≡ cond t longest (dens i *ℤ longest) *ℤ unit_vector i j) (sym (ne_eqb r i ne))
      (other_row i li ne j lj))
      (cases_eq r i)

  pub new_over : pos 0 <ℤ longest → (i : ℕ) → i < links → pos 0 <ℤ new_den i
  new_over some i li = ⊎_elim
      (λ e. subst (λ t. pos 0 <ℤ cond t longest (dens i *ℤ longest)) (sym (eq-eqb r i e)) some)
      (λ ne. subst (λ t. pos 0 <ℤ cond t longest (dens i *ℤ longest)) (sym (ne_eqb r i ne)) (positive_product (dens i) longest (h.over i li) some))
      (cases_eq r i)
