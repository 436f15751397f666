use Rattle.std.proofs.Common.{◌≡◌, drop}
use Rattle.net_core.specs.Terms.{are_same}
use Rattle.model_reader.{specs.Models.key_word, specs.ModelReading.first_key}
use Rattle.model_reader.proofs.model_file.first_of.Given as goal

-- no key so far has the word
abbrev pub invariant-loop-key : goal.invariant-loop-key
invariant-loop-key l = first_key (λ k. are_same (key_word k) l.word) (drop l.key-index l.keys) ≡ first_key (λ k. are_same (key_word k) l.word) l.keys
