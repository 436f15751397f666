-- The words of this crate, passed on from one place to other crates. Declares nothing.
pub use Rattle.model_reader.specs.Failures.{IsShort, SpellsFailures, failures_header, list_items, single_states, singles_from, state_items}
pub use Rattle.model_reader.specs.FailuresReading.{failures_of}
unfoldable pub use Rattle.model_reader.specs.FailuresReading.{state_at}
pub use Rattle.model_reader.specs.FaultWords.{failures_word, model_word}
pub use Rattle.model_reader.specs.ModelReading.{all_keys, model_of}
pub use Rattle.model_reader.specs.Models.{SpellsModel, key_word, model_header}
