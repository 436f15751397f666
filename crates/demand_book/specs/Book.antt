-- which edits need memory
use Rattle.plan_terms.specs.Terms.{Edit, Add, Drop, Set}

-- the edit adds a demand
abbrev pub IsAdd : Edit → Type 0
IsAdd (Add name from to need) = Unit {0}
IsAdd (Set name need) = ⊥
IsAdd (Drop name) = ⊥
