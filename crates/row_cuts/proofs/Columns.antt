-- the columns of the routing program by their names, and what keys leave of them
use Rattle.std.proofs.Common.{◌≡◌, ℕ, ◌+◌, ◌<◌, List, cond, length, sym, ap, ◌∙◌, arith, subst, ⊎_elim, ℤ, pos, ◌-ℤ◌}
use Rattle.net_core.proofs.Library.{ints, cases_eq}
use Rattle.plan_terms.specs.Terms.{RouteColumn, LinkSlack, DemandSlack, Carry, LinkId, Graph, names_link}
use Rattle.simplex_law.{specs.Terms.{unit_vector, ColumnOf}, proofs.Lemmas.{unit-other, unit-same}}
use Rattle.key_law.{specs.Keys.{difference, left_target}, proofs.Lemmas.{free_difference, owned_difference}, proofs.Owned.{free_target, owned_target}}
use Rattle.route_law.{specs.Terms.path_entry, proofs.Lemmas.{beside_first, beside_after}}
use Rattle.row_cuts.specs.KeyPaths.{on_path, beyond_key}

-- what a column gains
abbrev pub name_gain : RouteColumn → ℤ
name_gain (LinkSlack link) = pos 0
name_gain (DemandSlack demand) = pos 0
name_gain (Carry demand path) = pos 1

-- its entries
abbrev pub name_entry : Graph → RouteColumn → ℕ → ℤ
name_entry g (LinkSlack link) = unit_vector link.0
name_entry g (DemandSlack demand) = unit_vector (length g.links + demand)
name_entry g (Carry demand path) = path_entry g demand path

-- the column of a name
abbrev pub named : Graph → RouteColumn → ColumnOf RouteColumn
named g name = record { name = name; gain = name_gain name; entry = name_entry g name }

-- what the keys leave of its gain, where each of them gains 1
abbrev pub left_gain : RouteColumn → ℤ
left_gain (LinkSlack link) = pos 0
left_gain (DemandSlack demand) = pos 0 -ℤ pos 1
left_gain (Carry demand path) = pos 0

-- the links and demands of a column are there
abbrev pub IsThere : ℕ → ℕ → RouteColumn → Type 0
IsThere links demands (LinkSlack link) = link.0 < links
IsThere links demands (DemandSlack demand) = demand < demands
IsThere links demands (Carry demand path) = demand < demands

module _ (g : Graph) (demands : ℕ) (keys : ℕ → List LinkId) where
  abbrev links : ℕ
  links = length g.links

  abbrev ones : List LinkId → ℕ → ℤ
  ones path e = cond (names_link e path) (pos 1) (pos 0)

  -- the entries of a path in the rows of links, and in those of demands
  pub path_link : (k : ℕ) (path : List LinkId) (e : ℕ) → e < links → path_entry g k path e ≡ on_path path e
  path_link k path e l = beside_first links (ones path) (unit_vector k) e l

  pub path_demand : (k : ℕ) (path : List LinkId) (d : ℕ) → path_entry g k path (links + d) ≡ unit_vector k d
  path_demand k path d = beside_after links (ones path) (unit_vector k) d

  slack_demand : (e d : ℕ) → e < links → unit_vector e (links + d) ≡ pos 0
  slack_demand e d l = unit-other e (links + d) (λ z. omega (arith, z, l))

  unit_shift : (n a b : ℕ) → unit_vector (n + a) (n + b) ≡ unit_vector a b
  unit_shift n a b = ⊎_elim
      (λ e. subst (λ x. unit_vector (n + a) (n + x) ≡ unit_vector a x) e (unit-same (n + a) ∙ sym (unit-same a)))
      (λ ne. unit-other (n + a) (n + b) (λ z. ne (omega (arith, z))) ∙ sym (unit-other a b ne))
      (cases_eq a b)

  module _ (key_columns : ℕ → ℕ → ℤ) (are : (d k : ℕ) → d < demands → k < links → key_columns d k ≡ on_path (keys d) k) where
    -- what keys leave of a column
    pub left_is : (name : RouteColumn) (k : ℕ) → IsThere links demands name → k < links → difference links demands key_columns (name_entry g name) k ≡ beyond_key keys name k
    left_is (LinkSlack link) k there l = free_difference links demands key_columns (unit_vector link.0) (λ e h. slack_demand link.0 e there) k
    left_is (DemandSlack d) k there l =
        owned_difference links demands key_columns (unit_vector (links + d)) d there (λ e h. unit_shift links d e) k
        ∙ both (unit-other (links + d) k (λ z. omega (arith, z, l))) (are d k there l)
      where
        both : {x y s t : ℤ} → x ≡ y → s ≡ t → x -ℤ s ≡ y -ℤ t
        both {x} {y} {s} {t} e f = omega (arith, ints, e, f)
    left_is (Carry d path) k there l =
        owned_difference links demands key_columns (path_entry g d path) d there (λ e h. path_demand d path e) k
        ∙ both (path_link d path k l) (are d k there l)
      where
        both : {x y s t : ℤ} → x ≡ y → s ≡ t → x -ℤ s ≡ y -ℤ t
        both {x} {y} {s} {t} e f = omega (arith, ints, e, f)

    -- what keys that gain 1 leave of its gain
    pub left_gain_is : (key_gain : ℕ → ℤ) (name : RouteColumn) → ((d : ℕ) → key_gain d ≡ pos 1) → IsThere links demands name
        → left_target links demands key_gain (name_entry g name) (name_gain name) ≡ left_gain name
    left_gain_is key_gain (LinkSlack link) gains there = free_target links demands key_columns (unit_vector link.0) (λ e h. slack_demand link.0 e there) key_gain (pos 0)
    left_gain_is key_gain (DemandSlack d) gains there = owned_target links demands key_columns (unit_vector (links + d)) d there (λ e h. unit_shift links d e) key_gain (pos 0) ∙ ap (λ x. pos 0 -ℤ x) (gains d)
    left_gain_is key_gain (Carry d path) gains there = owned_target links demands key_columns (path_entry g d path) d there (λ e h. path_demand d path e) key_gain (pos 1) ∙ (ap (λ x. pos 1 -ℤ x) (gains d) ∙ omega (arith, ints))
