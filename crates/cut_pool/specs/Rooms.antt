-- edits for which a board can spare memory
use Rattle.std.specs.Prelude.{ℕ, ◌-◌, Bool, false, List, cond}
use Rattle.plan_terms.specs.Terms.{Demand, Edit, Add, Drop, Set, is_demand}

-- the edit sets the need of one of these demands
abbrev pub sets_known : List Demand → Edit → Bool
sets_known demands (Set name need) = is_demand name demands
sets_known demands (Add name from to need) = false
sets_known demands (Drop name) = false

-- how many such edits there is memory for once this one is committed
abbrev pub left_spare : List Demand → Edit → ℕ → ℕ
left_spare demands edit spare = cond (sets_known demands edit) (spare - 1) spare
