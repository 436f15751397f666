use Rattle.std.proofs.Common.{◌≡◌, []}
use Rattle.snd_tokens.specs.Terms.{left, size}
use Rattle.text_kit.specs.Terms.{TheEnd, list_at, no_fault}
use Rattle.session_script.specs.ScriptReading.{command_at}
use Rattle.session_script.proofs.reader.commands.Given as goal

abbrev pub invariant-loop-all : goal.invariant-loop-all
invariant-loop-all l = list_at TheEnd no_fault (command_at l.places) l.all (left l.text) ≡ list_at TheEnd no_fault (command_at l.places) [] (left l.fn.text)

abbrev pub decreases-loop-all : goal.decreases-loop-all
decreases-loop-all l = size (left l.text)
