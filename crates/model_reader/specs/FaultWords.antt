-- how the kinds of faults are written
use Rattle.std.specs.Prelude.{ℕ, List, ◌++◌, codes}
use Rattle.model_reader.{specs.declared.failures.FailuresKind.FailuresKind, specs.declared.model.ModelKind.ModelKind, specs.Models.key_word}
use Rattle.model_reader.specs.declared.failures.FailuresKind.TheVariants as failures
use Rattle.model_reader.specs.declared.model.ModelKind.TheVariants as models

-- the word of each fault of a model file
abbrev pub model_word : ModelKind → List ℕ
model_word models.Header = codes "header"
model_word models.Token = codes "token"
model_word models.Ended = codes "ended"
model_word models.Key = codes "key"
model_word models.DoubleKey = codes "double-key"
model_word (models.Unsupported key) = codes "unsupported-" ++ key_word key
model_word (models.Missing key) = codes "missing-" ++ key_word key

-- the word of each fault of a failure list
abbrev pub failures_word : FailuresKind → List ℕ
failures_word failures.Header = codes "header"
failures_word failures.Section = codes "section"
failures_word failures.Token = codes "token"
failures_word failures.Ended = codes "ended"
failures_word failures.LimitName = codes "limit-name"
failures_word failures.UnknownLink = codes "unknown-link"
failures_word failures.DoubleState = codes "double-state"
failures_word failures.LimitStates = codes "limit-states"
