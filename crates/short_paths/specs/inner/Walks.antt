-- paths that keep off nodes that were seen
use Rattle.std.{specs.Prelude.{◌≡◌, ℕ, ◌==◌, Bool, true, false, cond, List, Option, None, Some, slice_index_or}, specs.List.AllByRecursion}
use Rattle.plan_terms.specs.Terms.{LinkId, NodeId, Link, AreDifferent, Leads, last_node}

-- the other end of a link, seen from one of its ends
abbrev pub far_end : Link → ℕ → Option NodeId
far_end l x = cond (l.a.0 == x) (Some l.b) (cond (l.b.0 == x) (Some l.a) None)

-- the node was not seen
abbrev pub IsUnseen : List Bool → ℕ → Type 0
IsUnseen seen x = slice_index_or seen x true ≡ false

-- the links lead from a to b along different nodes, none of which was seen
abbrev pub IsUnseenPath : (ℕ → ℕ → ℕ → Type 0) → List Bool → ℕ → ℕ → List LinkId → Type 0
IsUnseenPath joins seen a b es =
    (cs : List ℕ) × Leads joins a es cs × (last_node a cs ≡ b) × AreDifferent cs × AllByRecursion (IsUnseen seen) cs
