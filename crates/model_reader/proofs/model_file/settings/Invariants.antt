use Rattle.std.proofs.Common.{◌≡◌, []}
use Rattle.snd_tokens.specs.Terms.{left, size}
use Rattle.text_kit.specs.Terms.{TheEnd, list_at}
use Rattle.model_reader.specs.ModelReading.{missing, setting_at}
use Rattle.model_reader.proofs.model_file.settings.Given as goal

abbrev pub invariant-loop-all : goal.invariant-loop-all
invariant-loop-all l = list_at TheEnd missing setting_at l.all (left l.text) ≡ list_at TheEnd missing setting_at [] (left l.fn.text)

abbrev pub decreases-loop-all : goal.decreases-loop-all
decreases-loop-all l = size (left l.text)
