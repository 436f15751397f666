use Rattle.std.proofs.Common.{◌≡◌, ◌-◌, ◌≤◌, length}
use Rattle.snd_tokens.specs.Terms.{tokens_from}
use Rattle.tree_reader.specs.ReportEnds.{end_after}
use Rattle.tree_reader.proofs.ends.report_end.Given as goal

-- the tokens so far end there
abbrev pub invariant-loop-token : goal.invariant-loop-token
invariant-loop-token l = record {
  value : end_after 0 (tokens_from 0 l.bytes) ≡ end_after l.end (tokens_from l.end l.bytes);
  within : l.end ≤ length l.bytes;
}

-- what is left of the text
abbrev pub decreases-loop-token : goal.decreases-loop-token
decreases-loop-token l = length l.bytes - l.end
