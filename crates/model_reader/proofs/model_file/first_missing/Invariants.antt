use Rattle.std.proofs.Common.{◌≡◌, drop, not}
use Rattle.model_reader.specs.ModelReading.{first_key, has_key}
use Rattle.model_reader.proofs.model_file.first_missing.Given as goal

-- a setting has each key so far
abbrev pub invariant-loop-key : goal.invariant-loop-key
invariant-loop-key l = first_key (λ k. not (has_key l.settings k)) (drop l.key-index l.keys) ≡ first_key (λ k. not (has_key l.settings k)) l.keys
