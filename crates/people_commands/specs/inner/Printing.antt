-- what a run prints and says beside that, or how it ends
use Rattle.std.specs.Prelude.{◌≡◌, ◌≢◌, ℕ, List, [], Result, Ok, Err}
use Rattle.outside_io.{specs.declared.status.Status.Status, specs.declared.status.Status.TheVariants.Done}
use Rattle.people_files.{specs.Endings.Halts, specs.declared.stop.Halt.Halt}
use Rattle.people_plans.specs.declared.answer.PlanAnswer.{PlanAnswer}
use Rattle.people_commands.specs.declared.output.Printed.{Printed}

-- what is printed and said has its cause, and so has a run that ends with a message
abbrev pub HasPrintedCause : (Status → List ℕ → List ℕ → Type 0) → Result Printed Halt → Type 0
HasPrintedCause Ends (Ok p) = Ends Done p.text p.message
HasPrintedCause Ends (Err h) = Halts (λ status message. Ends status [] message) h

-- an answer with a plan is printed and said, and any other answer ends the run with its message
abbrev pub GivesAnswer : PlanAnswer → Result Printed Halt → Type 0
GivesAnswer a (Ok p) = (a.status ≡ Done) × (p.text ≡ a.text) × (p.message ≡ a.message)
GivesAnswer a (Err h) = (a.status ≢ Done) × Halts (λ status message. (status ≡ a.status) × (message ≡ a.message)) h
