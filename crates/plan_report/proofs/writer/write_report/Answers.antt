use Rattle.plan_report.proofs.Forms.{text_is, text_spells}
use Rattle.plan_report.proofs.writer.write_report.Goals as goal

pub returns-clause-text : goal.returns-clause-text
returns-clause-text c =
    text_is _ _ _
    (rw (c.items.ensures, c.nodes.ensures, c.items-2.ensures, c.links.ensures, c.items-3.ensures, c.listed.ensures, c.places-2.ensures, c.in_ok-append.ensures.ok, c.header.ensures, c.places.ensures, c.new-text.ensures) at c.in_ok-put_report.ensures)

pub returns-clause-spelled : goal.returns-clause-spelled
returns-clause-spelled c =
    text_spells _ _ _ c.requires
    (rw (c.items.ensures, c.nodes.ensures, c.items-2.ensures, c.links.ensures, c.items-3.ensures, c.listed.ensures, c.places-2.ensures, c.in_ok-append.ensures.ok, c.header.ensures, c.places.ensures, c.new-text.ensures) at c.in_ok-put_report.ensures)
