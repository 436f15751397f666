use Rattle.std.proofs.Common.{◌≡◌, map, take}
use Rattle.model_reader.specs.Models.{key_word}
use Rattle.fault_messages.proofs.names.words_of.Given as goal

-- the words so far
abbrev pub invariant-loop-key : goal.invariant-loop-key
invariant-loop-key l = l.words ≡ map key_word (take l.key-index l.keys)
