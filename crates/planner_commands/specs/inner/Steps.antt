-- what the functions of a run answer to each other
use Rattle.std.specs.Prelude.{ℕ, List, Result, Ok, Err}
use Rattle.outside_io.{specs.declared.answer.Answer.Answer, specs.declared.status.Status.Status}
use Rattle.input_files.{specs.Stops.{Stops, named}, specs.declared.stop.Stop.Stop}
use Rattle.planner_commands.{specs.declared.words.Command.Command, specs.declared.words.Command.TheVariants.{Plan, Session, Check, Trim, Prove, Import, Sample}}
use Rattle.planner_commands.specs.Commands as commands

-- the command that is asked for, as the words define it
abbrev pub asked_command : Command → commands.Command
asked_command (Plan files) = commands.Plan (named files)
asked_command (Session four) = commands.Session (named four.files) four.last.now
asked_command (Check four) = commands.Check (named four.files) four.last.now
asked_command (Trim files) = commands.Trim (named files)
asked_command (Prove words) = commands.Prove words.limit (named words.files)
asked_command (Import four) = commands.Import (named four.files) four.last.now
asked_command (Sample words) = commands.Sample words.seed words.nodes

-- an answer has its cause, or memory ran out
abbrev pub HasCause : (Status → List ℕ → Type 0) → Result Answer Stop → Type 0
HasCause Ends (Ok a) = Ends a.status a.text
HasCause Ends (Err s) = Stops Ends s
