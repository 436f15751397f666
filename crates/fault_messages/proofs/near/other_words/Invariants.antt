use Rattle.std.proofs.Common.{◌≡◌, ◌-◌, ◌≤◌, ◌++◌, length}
use Rattle.snd_tokens.specs.Terms.{tokens_from}
use Rattle.fault_messages.specs.NearNames.{other_words}
use Rattle.fault_messages.proofs.near.other_words.Given as goal

-- the words so far, and those of the tokens that are left
abbrev pub invariant-loop-token : goal.invariant-loop-token
invariant-loop-token l = record {
  value : other_words l.text l.at l.name (tokens_from 0 l.text) ≡ l.words ++ other_words l.text l.at l.name (tokens_from l.from l.text);
  within : l.from ≤ length l.text;
}

-- what is left of the text
abbrev pub decreases-loop-token : goal.decreases-loop-token
decreases-loop-token l = length l.text - l.from
