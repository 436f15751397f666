use Rattle.text_kit.proofs.Lemmas.{list_turn}
use Rattle.report_words.proofs.element.take_element.Goals as goal

pub returns-clause-turn : goal.returns-clause-turn
returns-clause-turn g c =
    rw c.in-Ok.ensures.items (list_turn (g.S.ListEnd.ending c.args.end.now) (g.E.Element.fault c.args.element.now) (g.E.Element.reading c.args.element.now) c.requires c.args.all.now.items _ _ _ c.in_default.ensures.1 (rw (c.in_default.ensures.0, c.as_slice-2.ensures.value) at c.in_ok-one.ensures))
