use Rattle.std.proofs.Common.{◌+◌, ◌∙◌, refl, subst, sym}
use Rattle.net_core.proofs.Library.{false≢true}
use Rattle.tree_check.specs.Boxes.{IsFixedSpan}
use Rattle.box_program.{specs.inner.BoxRows.AreRowsBefore, proofs.RowsMade.row_more}
use Rattle.box_program.proofs.rows.add_module.Goals as goal

pub returns : goal.returns
returns c =
    let links = c.args.links.now in
    let box = c.args.boxed.now in
    subst (AreRowsBefore links box c.args.e (c.args.m + 1)) (sym c.in_ok-push.ensures.ok)
    (row_more links box c.args.e c.args.m c.args.rows.now _ refl refl (record {
      free = record {
        link = c.requires.link;
        inside = c.requires.inside;
        unfixed = λ fixed. false≢true (sym c.if-is_fixed.false ∙ c.is_fixed.ensures.1 (subst IsFixedSpan (sym c.span_at-span.ensures) fixed));
      };
      span = c.span_at-span.ensures;
    }) c.requires.rows)
