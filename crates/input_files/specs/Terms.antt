-- The words of this crate, passed on from one place to other crates. Declares nothing.
pub use Rattle.input_files.specs.InputWords.{PlanWords, default}
pub use Rattle.input_files.specs.Inputs.{EndsAfterInputs, Fetched, HasInputs, HasModel, HasStates, IsSettled, RefusesFlowFile, RefusesReportFile, RefusesScriptFile, SpellsNetwork, StopsAtFetch, StopsAtFile, input_limit, report_limit}
pub use Rattle.input_files.specs.Refusals.{Refuses, refusal_line, unused_line}
pub use Rattle.input_files.specs.Shelves.{KeepsShelf}
pub use Rattle.input_files.specs.Stops.{Stops, named}
