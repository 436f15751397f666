-- what tests answer
use Rattle.std.specs.Prelude.{ℕ, Option, None, Some, Result, Ok, Err, ⊤, List}
use Rattle.plan_checker.{specs.Order.{Kind, HoldsNone, HoldNone, IsFirstFinding}, specs.Places.{IsLeastPair, IsLeastPlace}, specs.declared.place.Place.Place, specs.declared.stop.Stop.Stop, specs.declared.stop.Stop.TheVariants.{Found, NoMemory}}

-- the least place at which this holds, or none where it holds at none
abbrev pub IsFirstPlace : (ℕ → Type 0) → Option ℕ → Type 0
IsFirstPlace P None = (k : ℕ) → P k → ⊥
IsFirstPlace P (Some k) = IsLeastPlace P k

-- the least state and place at which this holds, or none where it holds at none
abbrev pub IsFirstPair : (ℕ → ℕ → Type 0) → Option Place → Type 0
IsFirstPair P None = (s k : ℕ) → P s k → ⊥
IsFirstPair P (Some x) = IsLeastPair P x.group x.at

-- why a test of one kind stopped: a finding of the kind that holds
abbrev pub StopsBy : Kind → Stop → Type 0
StopsBy kind (Found f) = kind f
StopsBy kind NoMemory = ⊤

-- a test of one kind: no finding holds, or it stopped by one
abbrev pub Tells : Kind → Result ⊤ Stop → Type 0
Tells kind (Ok _) = HoldsNone kind
Tells kind (Err stop) = StopsBy kind stop

-- why tests of several kinds stopped: the first finding
abbrev pub StopsFirst : List Kind → Stop → Type 0
StopsFirst kinds (Found f) = IsFirstFinding kinds f
StopsFirst kinds NoMemory = ⊤

-- tests of several kinds: no finding holds, or they stopped by the first
abbrev pub TellFirst : List Kind → Result ⊤ Stop → Type 0
TellFirst kinds (Ok _) = HoldNone kinds
TellFirst kinds (Err stop) = StopsFirst kinds stop
