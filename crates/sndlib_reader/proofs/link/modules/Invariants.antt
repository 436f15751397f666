use Rattle.std.proofs.Common.{◌≡◌, []}
use Rattle.snd_tokens.specs.Terms.{left, size}
use Rattle.text_kit.specs.Terms.{Parenthesis, list_at}
use Rattle.sndlib_reader.specs.Reading.{module_at, unserved}
use Rattle.sndlib_reader.proofs.link.modules.Given as goal

abbrev pub invariant-loop-all : goal.invariant-loop-all
invariant-loop-all l =
    list_at Parenthesis (unserved l.fixed) (module_at l.places) l.all (left l.text)
    ≡ list_at Parenthesis (unserved l.fixed) (module_at l.places) [] (left l.fn.text)

abbrev pub decreases-loop-all : goal.decreases-loop-all
decreases-loop-all l = size (left l.text)
