-- runs that end at one of their files
use Rattle.std.specs.Prelude.{ℕ, List, []}
use Rattle.outside_io.{specs.declared.status.Status.Status, specs.declared.status.Status.TheVariants.ReadFault}
use Rattle.input_files.{specs.InputWords.PlanWords, specs.declared.stop.Stop.Stop, specs.declared.words.PlanFiles.PlanFiles}
use Rattle.input_files.specs.declared.stop.Stop.TheVariants as stop

-- the files that the words name
abbrev pub named : PlanFiles → PlanWords
named f = record { network = f.network.now; model = f.model.now; failures = f.failures.now }

-- a stop has its cause, unless memory ran out
abbrev pub Stops : (Status → List ℕ → Type 0) → Stop → Type 0
Stops Ends stop.NoMemory = Unit {0}
Stops Ends stop.ReadFault = Ends ReadFault []
Stops Ends (stop.Told a) = Ends a.status a.text
