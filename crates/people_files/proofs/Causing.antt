-- how the result of one step becomes the result of the run
use Rattle.std.proofs.Common.{◌≡◌, ◌∙◌, ℕ, List, [], Result, Ok, Err, subst, sym, IfOk, MatchResult}
use Rattle.outside_io.{specs.declared.status.Status.Status, specs.declared.status.Status.TheVariants.{Done, ReadFault}}
use Rattle.people_files.{specs.Endings.{Halts, HasCauseForPeople, halt_status}, specs.declared.stop.Halt.Halt}
use Rattle.people_files.specs.declared.stop.Halt.TheVariants as halt

-- a further cause
pub halt_map : (P Q : Status → List ℕ → Type 0) (h : Halt) → ((status : Status) (message : List ℕ) → P status message → Q status message) → Halts P h → Halts Q h
halt_map P Q halt.NoMemory f held = tt
halt_map P Q (halt.Told told) f held = f told.status told.message held

-- a message that was made, or for which there was no memory, is the cause of what it says
pub told_so : {E : Type 0} → (status : Status) (P : List ℕ → Type 0) (Q : Status → List ℕ → Type 0) (r : Result (List ℕ) E) (h : Halt) → IfOk r P
    → MatchResult r (λ m. Halts (λ s t. (s ≡ status) × (t ≡ m)) h) (λ _. h ≡ halt.NoMemory) → ((m : List ℕ) → P m → Q status m) → Halts Q h
told_so status P Q (Ok m) h made held so =
    halt_map (λ s t. (s ≡ status) × (t ≡ m)) Q h (λ s t says. subst (λ x. Q x t) (sym says.0) (subst (λ x. Q status x) (sym says.1) (so m made))) held
told_so status P Q (Err e) h made held so = subst (Halts Q) (sym held) tt

-- a run that ends with another status didn't fail to read
pub not_reading : (bad : Status) (P : List ℕ → Type 0) (h : Halt) → (bad ≡ ReadFault → ⊥) → Halts (λ s m. (s ≡ bad) × P m) h → halt_status h ≡ ReadFault → ⊥
not_reading bad P halt.NoMemory other held is = absurd (cc is)
not_reading bad P (halt.Told told) other held is = other (sym held.0 ∙ is)

-- a further cause of a text or a message
pub cause_map : (P Q : Status → List ℕ → List ℕ → Type 0) (r : Result (List ℕ) Halt) → ((status : Status) (text message : List ℕ) → P status text message → Q status text message)
    → HasCauseForPeople P r → HasCauseForPeople Q r
cause_map P Q (Ok text) f held = f Done text [] held
cause_map P Q (Err h) f held = halt_map (λ status message. P status [] message) (λ status message. Q status [] message) h (λ status message. f status [] message) held
