-- findings in order: which is the first, and that there is none
use Rattle.std.specs.Prelude.{◌⊎◌, List, [], ◌∷◌}
use Rattle.plan_checker.specs.declared.finding.Finding.{Finding}

-- a kind of finding: which findings of this kind hold
abbrev pub Kind : Type 1
Kind = Finding → Type 0

-- no finding of the kind holds
abbrev pub HoldsNone : Kind → Type 0
HoldsNone kind = (f : Finding) → kind f → ⊥

-- no finding of these kinds holds
abbrev pub HoldNone : List Kind → Type 0
HoldNone [] = Unit {0}
HoldNone (kind ∷ kinds) = HoldsNone kind × HoldNone kinds

-- the finding holds, and none of an earlier kind does
abbrev pub IsFirstFinding : List Kind → Finding → Type 0
IsFirstFinding [] f = ⊥
IsFirstFinding (kind ∷ kinds) f = kind f ⊎ (HoldsNone kind × IsFirstFinding kinds f)
