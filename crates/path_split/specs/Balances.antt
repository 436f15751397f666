-- flows on arcs, and what they leave and bring at each node
use Rattle.std.{specs.Prelude.{◌≡◌, ℕ, ◌+◌, ◌<◌, ◌==◌, ◌⊎◌, Bool, false, if◌then◌else◌, List, Some, slice_get, sum_by}, specs.Option.option_map_or}
use Rattle.plan_terms.specs.Terms.{Link}
use Rattle.path_split.specs.declared.arc.Arc.{Arc}

-- an arc leaves an end of its link
pub record IsArc (links : List Link) (a : Arc) : Type 0 where
  pub link : Link
  pub at : slice_get links a.link.0 ≡ Some link
  pub end : (link.a.0 ≡ a.from.0) ⊎ (link.b.0 ≡ a.from.0)

-- the end of a link that isn't this one
abbrev pub other_end : Link → ℕ → ℕ
other_end l x = if l.a.0 == x then l.b.0 else l.a.0

-- the arc enters node x: that is the other end of its link
abbrev pub enters : List Link → ℕ → Arc → Bool
enters links x a = option_map_or (λ l. other_end l a.from.0 == x) (slice_get links a.link.0) false

-- what the arcs that leave node x sum to
abbrev pub leaving : List Arc → ℕ → ℕ
leaving arcs x = sum_by (λ a. (if a.from.0 == x then a.num else 0)) arcs

-- what the arcs that enter node x sum to
abbrev pub entering : List Link → List Arc → ℕ → ℕ
entering links arcs x = sum_by (λ a. (if enters links x a then a.num else 0)) arcs

-- Node x is balanced: what leaves it less what enters it is the need at `from`, minus the need at `to`, and 0 at every other node.
abbrev pub IsBalanced : List Link → List Arc → ℕ → ℕ → ℕ → ℕ → Type 0
IsBalanced links arcs from to need x =
    leaving arcs x + (if to == x then need else 0) ≡ entering links arcs x + (if from == x then need else 0)

-- each of n nodes is balanced
abbrev pub AreNodesBalanced : ℕ → List Link → List Arc → ℕ → ℕ → ℕ → Type 0
AreNodesBalanced n links arcs from to need = (x : ℕ) → x < n → IsBalanced links arcs from to need x

-- node x is the first of n nodes that isn't balanced
pub record IsFirstUnbalanced (n : ℕ) (links : List Link) (arcs : List Arc) (from to need x : ℕ) : Type 0 where
  pub node : x < n
  pub differs : IsBalanced links arcs from to need x → ⊥
  pub before : (y : ℕ) → y < x → IsBalanced links arcs from to need y
