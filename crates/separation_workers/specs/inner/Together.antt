-- what groups of workers find together
use Rattle.std.specs.Prelude.{◌≡◌, ◌++◌, Result, Ok, Err, Vec}
use Rattle.plan_terms.specs.Terms.{NoMemory}
use Rattle.separation_workers.specs.declared.round.StateFound.{StateFound}

-- where both groups have found all of theirs, the answers of the first and then those of the second; an error of either is an error
abbrev pub AreOfBoth : {A : Type 0} → (one two all : Result (Vec StateFound A) NoMemory) → Type 0
AreOfBoth (Ok one) (Ok two) (Ok all) = all.items ≡ one.items ++ two.items
AreOfBoth (Ok one) (Ok two) (Err none) = Unit {0}
AreOfBoth (Ok one) (Err none) (Ok all) = ⊥
AreOfBoth (Ok one) (Err none) (Err _) = Unit {0}
AreOfBoth (Err none) two (Ok all) = ⊥
AreOfBoth (Err none) two (Err _) = Unit {0}
