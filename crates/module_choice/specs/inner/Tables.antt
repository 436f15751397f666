-- the least costs of a link's modules to reach a number of steps
use Rattle.std.specs.Prelude.{◌≡◌, ℕ, ◌+◌, ◌-◌, ◌*◌, ◌^◌, ◌<◌, ◌≤◌, List, All, Some, length, map, slice_get}
use Rattle.plan_terms.specs.Terms.{Module, IsModule, IsGreatestDivisor, modules_capacity, modules_cost, Reaches}
use Rattle.module_choice.{specs.declared.tables.Entry.Entry, specs.declared.tables.Table.Table}

-- modules whose capacities are counted in steps, with their capacities in units of the network
abbrev pub in_units : ℕ → List Module → List Module
in_units step modules = map (λ m. record { capacity = step * m.capacity; cost = m.cost }) modules

-- the least that counts of any kinds cost which reach n steps
pub record IsLeastCost (modules : List Module) (n cost : ℕ) : Type 0 where
  pub counts : List ℕ
  pub reaches : Reaches modules n counts
  pub paid : modules_cost modules counts ≡ cost
  pub least : (others : List ℕ) → Reaches modules n others → cost ≤ modules_cost modules others

-- one module of the entry's kind, and modules for the steps that it leaves of n
pub record IsOneMore (modules : List Module) (entries : List Entry) (n : ℕ) (entry : Entry) : Type 0 where
  pub module_at : Module
  pub is : slice_get modules entry.kind ≡ Some module_at
  pub rest : Entry
  pub left : slice_get entries (n - module_at.capacity) ≡ Some rest
  pub paid : entry.cost ≡ module_at.cost + rest.cost

-- of all such entries for one step more than there are entries the cheapest
pub record IsNextEntry (modules : List Module) (entries : List Entry) (entry : Entry) : Type 0 where
  pub more : IsOneMore modules entries (length entries) entry
  pub least : (k : ℕ) (m : Module) (r : Entry) → slice_get modules k ≡ Some m → slice_get entries (length entries - m.capacity) ≡ Some r
      → entry.cost ≤ m.cost + r.cost

-- each entry has the least cost to reach as many steps as there are entries before it
pub record AreLeastCosts (modules : List Module) (entries : List Entry) : Type 0 where
  pub some : 0 < length entries
  pub least : (n : ℕ) (x : Entry) → slice_get entries n ≡ Some x → IsLeastCost modules n x.cost
  pub more : (n : ℕ) (x : Entry) → 0 < n → slice_get entries n ≡ Some x → IsOneMore modules entries n x
  pub small : (n : ℕ) (x : Entry) → slice_get entries n ≡ Some x → x.cost ≤ n * 2 ^ 40

-- counts that reach the steps at the cost of the table, by no more than one module more than wanted
pub record AreTaken (modules : List Module) (steps cost : ℕ) (counts : List ℕ) : Type 0 where
  pub reaches : Reaches modules steps counts
  pub paid : modules_cost modules counts ≡ cost
  pub few : All (λ c. c ≤ steps) counts
  pub narrow : (limit : ℕ) → All (λ m. m.capacity ≤ limit) modules → modules_capacity modules counts ≤ steps + limit

-- a table of the modules: its step is their capacities' greatest common divisor
pub record IsTable (modules : List Module) (table : Table) : Type 0 where
  pub divisor : IsGreatestDivisor (map (λ m. m.capacity) modules) table.step
  pub small : table.step < 2 ^ 40
  pub few : length table.modules ≤ 16
  pub scaled : modules ≡ in_units table.step table.modules
  pub sound : All IsModule table.modules
  pub least : AreLeastCosts table.modules table.entries

-- the table answers the need where it is few steps
abbrev pub Answers : Table → ℕ → Type 0
Answers table need = need ≤ 100000 * table.step → need ≤ table.step * (length table.entries - 1)
