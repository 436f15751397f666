use Rattle.std.proofs.Common.{◌≡◌, []}
use Rattle.snd_tokens.specs.Terms.{left, size}
use Rattle.text_kit.specs.Terms.{Parenthesis, list_at, no_fault}
use Rattle.model_reader.specs.FailuresReading.{state_at}
use Rattle.model_reader.proofs.failure_list.states.Given as goal

abbrev pub invariant-loop-all : goal.invariant-loop-all
invariant-loop-all l = list_at Parenthesis no_fault (state_at l.links) l.all (left l.text) ≡ list_at Parenthesis no_fault (state_at l.links) [] (left l.fn.text)

abbrev pub decreases-loop-all : goal.decreases-loop-all
decreases-loop-all l = size (left l.text)
