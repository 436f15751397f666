-- bases of key paths: a key path for each demand, and as many further columns as there are links
use Rattle.std.specs.Prelude.{◌≡◌, ℕ, ℤ, ◌<◌, ◌-ℤ◌, ◌*ℤ◌, ◌<ℤ◌, ◌≤ℤ◌, List, Some, pos, cond, length, slice_get}
use Rattle.plan_terms.specs.Terms.{RouteColumn, LinkSlack, DemandSlack, Carry, Demand, LinkId, Graph, Joins, names_link, IsPath}
use Rattle.simplex_law.specs.Terms.{dot, unit_vector}

-- 1 at each link of a path, and 0 elsewhere
abbrev pub on_path : List LinkId → ℕ → ℤ
on_path path e = cond (names_link e path) (pos 1) (pos 0)

-- what a row of n links takes of a path
abbrev pub row_along : ℕ → (ℕ → ℤ) → List LinkId → ℤ
row_along n row path = dot n row (on_path path)

-- what the keys leave of a column in the rows of links: a path's links less those of its demand's key
abbrev pub beyond_key : (ℕ → List LinkId) → RouteColumn → ℕ → ℤ
beyond_key keys (LinkSlack link) e = unit_vector link.0 e
beyond_key keys (DemandSlack demand) e = pos 0 -ℤ on_path (keys demand) e
beyond_key keys (Carry demand path) e = on_path path e -ℤ on_path (keys demand) e

module _ (g : Graph) (demands : List Demand) where
  -- a path between the ends of demand k
  pub record IsPathOf (k : ℕ) (path : List LinkId) : Type 0 where
    pub demand : Demand
    pub at : slice_get demands k ≡ Some demand
    pub leads : IsPath (Joins g) demand.from.0 demand.to.0 path

  -- a column beside the keys: the slack of a link, or a demand along one of its paths
  abbrev pub IsBesideKeys : RouteColumn → Type 0
  IsBesideKeys (LinkSlack link) = link.0 < length g.links
  IsBesideKeys (DemandSlack demand) = ⊥
  IsBesideKeys (Carry demand path) = IsPathOf demand path

  -- keys, the columns beside them, and for each column its row of the inverse of what the keys leave of them, over a positive denominator
  pub record IsPathBasis (keys : ℕ → List LinkId) (columns : ℕ → RouteColumn) (rows : ℕ → ℕ → ℤ) (dens : ℕ → ℤ) : Type 0 where
    pub lead : (k : ℕ) → k < length demands → IsPathOf k (keys k)
    pub beside : (j : ℕ) → j < length g.links → IsBesideKeys (columns j)
    pub over : (i : ℕ) → i < length g.links → pos 0 <ℤ dens i
    pub inverse : (i j : ℕ) → i < length g.links → j < length g.links → dot (length g.links) (rows i) (beyond_key keys (columns j)) ≡ dens i *ℤ unit_vector i j

  -- a row without negative numbers under which each key is a shortest path of its demand, and some key isn't of length 0
  pub record HasShortestKeys (keys : ℕ → List LinkId) (row : ℕ → ℤ) : Type 0 where
    pub positive : (e : ℕ) → e < length g.links → pos 0 ≤ℤ row e
    pub shortest : (k : ℕ) (path : List LinkId) → IsPathOf k path → row_along (length g.links) row (keys k) ≤ℤ row_along (length g.links) row path
    pub some : ℕ
    pub inside : some < length demands
    pub longer : pos 0 <ℤ row_along (length g.links) row (keys some)
