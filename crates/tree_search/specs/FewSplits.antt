-- how many splits a branch tree has at most
use Rattle.std.specs.Prelude.{ℕ, ◌+◌, ◌*◌, ◌<◌, List, [], ◌∷◌, All, count_by, length}
use Rattle.plan_terms.specs.Terms.{Link, Module}
use Rattle.tree_check.specs.Terms.{IsSplitOf, IsNodeOf, TreeBox, module_costs}
use Rattle.line_check.specs.Terms.{entry, divided_up}
use Rattle.tree_boxes.specs.Terms.{Node, Split, is_split}

-- the number of splits of a tree
abbrev pub split_number : List Node → ℕ
split_number tree = count_by is_split tree

-- for each module of a link, how many numbers of it cost less than the plan (the plan's cost over the module's, rounded up), and one more;
-- multiplied over the modules
abbrev pub modules_room : ℕ → List Module → ℕ
modules_room cost [] = 1
modules_room cost (m ∷ modules) = (divided_up cost m.cost + 1) * modules_room cost modules

-- the same, multiplied over the modules of all links
abbrev pub split_room : ℕ → List Link → ℕ
split_room cost [] = 1
split_room cost (l ∷ links) = modules_room cost l.modules * split_room cost links

-- all modules cost something
abbrev pub AreCharged : List Link → Type 0
AreCharged links = All (λ l. All (λ m. 0 < m.cost) l.modules) links

-- a split is one of its box, at a number of modules that cost less than the plan
abbrev pub IsCheapSplit : List Link → ℕ → TreeBox → Node → Type 0
IsCheapSplit links cost box (Split link at_module number) =
    IsSplitOf box link.0 at_module number × (entry (module_costs links) link.0 at_module * number < cost)
IsCheapSplit links cost box _ = Unit {0}

-- node i of the list belongs to the tree, and is a cheap split if it is a split
pub record IsCheapNode (links : List Link) (cost : ℕ) (tree : List Node) (i : ℕ) : Type 0 where
  pub box : TreeBox
  pub node : Node
  pub stands : IsNodeOf links tree i box node
  pub cheap : IsCheapSplit links cost box node

-- Where all modules cost something, all nodes belong to the tree, and each split is at a number of modules that cost less than the plan, the tree has fewer
-- splits than it has room for.
abbrev pub SplitsAreFew : Type 0
SplitsAreFew = (links : List Link) (cost : ℕ) (tree : List Node)
    → AreCharged links
    → ((i : ℕ) → i < length tree → IsCheapNode links cost tree i)
    → split_number tree < split_room cost links
