-- the kind of module that a link is given
use Rattle.std.specs.Prelude.{◌≡◌, ℕ, ◌*◌, ◌≤◌, List, Some, slice_get}
use Rattle.plan_terms.specs.Terms.{Module}
use Rattle.module_choice.specs.declared.covers.Kind.{Kind}

-- this count of modules of this kind reaches the need, no smaller one does, and no modules of one kind that reach it cost less
pub record IsBestKind (modules : List Module) (need : ℕ) (kind : Kind) : Type 0 where
  pub module_at : Module
  pub is : slice_get modules kind.at ≡ Some module_at
  pub reaches : need ≤ module_at.capacity * kind.count
  pub fewest : (c : ℕ) → need ≤ module_at.capacity * c → kind.count ≤ c
  pub least : (k : ℕ) (m : Module) (c : ℕ) → slice_get modules k ≡ Some m → need ≤ m.capacity * c → module_at.cost * kind.count ≤ m.cost * c
