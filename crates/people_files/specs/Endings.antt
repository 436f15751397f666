-- runs that end with a message and print nothing, or print a text
use Rattle.std.specs.Prelude.{◌≡◌, ℕ, List, [], Result, Ok, Err, IsErrAnd}
use Rattle.outside_io.{specs.declared.status.Status.Status, specs.declared.status.Status.TheVariants.{Done, NoMemory, ReadFault}}
use Rattle.people_files.specs.declared.stop.Halt.{Halt}
use Rattle.people_files.specs.declared.stop.Halt.TheVariants as halt

-- a run that ends with a message has its cause, unless memory ran out
abbrev pub Halts : (Status → List ℕ → Type 0) → Halt → Type 0
Halts Ends halt.NoMemory = Unit {0}
Halts Ends (halt.Told told) = Ends told.status told.message

-- a text, or a run that ends with a message, has its cause
abbrev pub HasCauseForPeople : (Status → List ℕ → List ℕ → Type 0) → Result (List ℕ) Halt → Type 0
HasCauseForPeople Ends (Ok text) = Ends Done text []
HasCauseForPeople Ends (Err h) = Halts (λ status message. Ends status [] message) h

-- the status of a run that ends so
abbrev pub halt_status : Halt → Status
halt_status halt.NoMemory = NoMemory
halt_status (halt.Told told) = told.status

-- reading a file failed
abbrev pub FailsReading : {X : Type 0} → Result X Halt → Type 0
FailsReading r = IsErrAnd r (λ h. halt_status h ≡ ReadFault)
