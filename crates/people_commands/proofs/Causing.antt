-- how the result of one step becomes the result of the run
use Rattle.std.proofs.Common.{◌≡◌, ◌∙◌, ℕ, List, [], Option, Result, Ok, Err, String, inr, subst, sym, ◌≢◌, MatchResult, Global}
use Rattle.outside_io.{specs.Outside.Files, specs.declared.status.Status.Status, specs.declared.status.Status.TheVariants.{Done, ReadFault}}
use Rattle.people_plans.specs.declared.answer.PlanAnswer.{PlanAnswer}
use Rattle.people_words.specs.PeopleCommands.{PeopleCommand, IsPeopleCommand}
use Rattle.people_files.{specs.Endings.{FailsReading, HasCauseForPeople}, specs.declared.stop.Halt.Halt, specs.declared.stop.Told.Told, proofs.Causing.halt_map}
use Rattle.people_commands.{specs.Endings.{EndsForPeople, EndsPeopleCommand}, specs.inner.Printing.{GivesAnswer, HasPrintedCause}, specs.declared.output.Printed.Printed}
use Rattle.people_files.specs.declared.stop.Halt.TheVariants as halt

-- a further cause of what is printed and said
pub printed_map : (P Q : Status → List ℕ → List ℕ → Type 0) (r : Result Printed Halt)
    → ((status : Status) (text message : List ℕ) → P status text message → Q status text message)
    → HasPrintedCause P r → HasPrintedCause Q r
printed_map P Q (Ok p) f held = f Done p.text p.message held
printed_map P Q (Err h) f held =
    halt_map (λ status message. P status [] message) (λ status message. Q status [] message) h (λ status message. f status [] message) held

-- a run with the words of a command ends as the command does
pub people_ends : (words : List (String Global)) (files : Option Files) (c : PeopleCommand) (r : Result Printed Halt) → IsPeopleCommand words c
    → HasPrintedCause (EndsPeopleCommand files c) r → HasPrintedCause (EndsForPeople words files) r
people_ends words files c r is held = printed_map (EndsPeopleCommand files c) (EndsForPeople words files) r (λ status text message ends. inr (inr (c, is, ends))) held

-- a text with nothing beside it
pub alone_has : (Ends : Status → List ℕ → List ℕ → Type 0) (r : Result (List ℕ) Halt) (p : Result Printed Halt)
    → MatchResult r (λ t. p ≡ Ok (record { text = t; message = [] })) (λ h. p ≡ Err h) → HasCauseForPeople Ends r → HasPrintedCause Ends p
alone_has Ends (Ok text) p is held = subst (HasPrintedCause Ends) (sym is) held
alone_has Ends (Err h) p is held = subst (HasPrintedCause Ends) (sym is) held

-- it fails reading only where that does
pub alone_reads : (r : Result (List ℕ) Halt) (p : Result Printed Halt) → MatchResult r (λ t. p ≡ Ok (record { text = t; message = [] })) (λ h. p ≡ Err h)
    → FailsReading p → FailsReading r
alone_reads (Ok text) p is fails = absurd (subst (λ (x : Result Printed Halt). FailsReading x) is fails)
alone_reads (Err h) p is fails = subst (λ (x : Result Printed Halt). FailsReading x) is fails

-- an answer with a plan, or another, which has no text
pub answer_has : (Ends : Status → List ℕ → List ℕ → Type 0) (a : PlanAnswer) (r : Result Printed Halt) → GivesAnswer a r → Ends a.status a.text a.message
    → (a.status ≢ Done → a.text ≡ []) → HasPrintedCause Ends r
answer_has Ends a (Ok p) gives held none =
    subst (λ (s : Status). Ends s p.text p.message) gives.0
    (subst (λ (t : List ℕ). Ends a.status t p.message) (sym gives.1) (subst (λ (m : List ℕ). Ends a.status a.text m) (sym gives.2) held))
answer_has Ends a (Err h) gives held none =
    halt_map (λ status message. (status ≡ a.status) × (message ≡ a.message)) (λ status message. Ends status [] message) h
    (λ status message same. subst (λ (s : Status). Ends s [] message) (sym same.0)
    (subst (λ (m : List ℕ). Ends a.status [] m) (sym same.1) (subst (λ (t : List ℕ). Ends a.status t a.message) (none gives.0) held))) gives.1

-- it fails reading only where its status says so
pub answer_reads : (a : PlanAnswer) (r : Result Printed Halt) → GivesAnswer a r → FailsReading r → a.status ≡ ReadFault
answer_reads a (Ok p) gives fails = absurd fails
answer_reads a (Err halt.NoMemory) gives fails = absurd (cc fails)
answer_reads a (Err (halt.Told told)) gives fails = sym gives.1.0 ∙ fails

-- a run that ends with a message has its status, and no text
pub told_ends : (Ends : Status → List ℕ → List ℕ → Type 0) (r : Result Printed Halt) (t : Told) → r ≡ Err (halt.Told t) → HasPrintedCause Ends r
    → Ends t.status [] t.message
told_ends Ends r t is held = subst (HasPrintedCause Ends) is held

-- its status says that it failed reading
pub told_fails : (r : Result Printed Halt) (t : Told) → r ≡ Err (halt.Told t) → t.status ≡ ReadFault → FailsReading r
told_fails r t is fails = subst (λ (x : Result Printed Halt). FailsReading x) (sym is) fails
