use Rattle.std.proofs.Common.{◌≡◌, []}
use Rattle.snd_tokens.specs.Terms.{left, size}
use Rattle.text_kit.specs.Terms.{list_at}
use Rattle.report_words.proofs.element.list_to.Given as goal

abbrev pub invariant-loop-all : goal.invariant-loop-all
invariant-loop-all g l = list_at (g.S.ListEnd.ending l.end) (g.E.Element.fault l.element) (g.E.Element.reading l.element) l.all.items (left l.text) ≡ list_at (g.S.ListEnd.ending l.end) (g.E.Element.fault l.element) (g.E.Element.reading l.element) [] (left l.fn.text)

abbrev pub decreases-loop-all : goal.decreases-loop-all
decreases-loop-all g l = size (left l.text)
