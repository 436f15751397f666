-- the first finding of several kinds, one kind after another
use Rattle.std.{proofs.Common.{List, ◌∷◌, Result, Ok, Err, OnOk, Option, None, Some, ℕ, ◌≡◌, subst, inr}, specs.Bool.⊤}
use Rattle.plan_checker.{specs.Order.{HoldsNone, Kind}, specs.inner.Tests.{IsFirstPair, StopsFirst, TellFirst}, specs.declared.place.Place.Place, specs.declared.stop.Stop.Stop, specs.declared.stop.Stop.TheVariants.{Found, NoMemory}}

-- a later test that stops
pub stop_later : (kind : Kind) (kinds : List Kind) (stop : Stop) → HoldsNone kind → StopsFirst kinds stop → StopsFirst (kind ∷ kinds) stop
stop_later kind kinds (Found f) none h = inr (none, h)
stop_later kind kinds NoMemory none h = tt

-- a test that finds nothing, and then others
pub told_later : (kind : Kind) (kinds : List Kind) (r : Result ⊤ Stop) → HoldsNone kind → TellFirst kinds r → TellFirst (kind ∷ kinds) r
told_later kind kinds (Ok u) none h = (none, h)
told_later kind kinds (Err stop) none h = stop_later kind kinds stop none h

pub on_ok : {A : Type 0} (r : Result ⊤ Stop) → A → OnOk r A
on_ok (Ok u) a = a
on_ok (Err stop) a = tt

-- what a search found
pub some_pair : (P : ℕ → ℕ → Type 0) (o : Option Place) (x : Place) → o ≡ Some x → IsFirstPair P o → P x.group x.at
some_pair P o x is h = (subst (IsFirstPair P) is h).0

pub none_pair : (P : ℕ → ℕ → Type 0) (o : Option Place) → o ≡ None → IsFirstPair P o → (s k : ℕ) → P s k → ⊥
none_pair P o is h = subst (IsFirstPair P) is h
