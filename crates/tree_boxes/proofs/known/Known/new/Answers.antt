use Rattle.std.proofs.Common.{◌∙◌, List, subst}
use Rattle.plan_terms.specs.Terms.{CutLine, case_of}
use Rattle.line_check.{specs.Terms.{sources_of, AreTested}, specs.declared.line.Line.Line}
use Rattle.tree_boxes.proofs.Knowing.{known_cuts}
use Rattle.tree_boxes.proofs.known.Known.new.Goals as goal

pub returns-clause-known : goal.returns-clause-known
returns-clause-known c =
    let p = case_of c.args.instance.now in
    let tested = c.in_ok-tested.tested in
    let by_cuts = subst (λ (cuts : List CutLine). AreTested p (sources_of cuts c.items-2.result.now) tested) c.items.ensures c.in_ok-tested.ensures in
    let alone = subst (λ (lines : List Line). AreTested p (sources_of c.args.cuts lines) tested) (c.items-2.ensures ∙ c.new-none.ensures) by_cuts in
    known_cuts p c.args.cuts _ c.requires.few c.requires.sound alone c.in_ok-entries_of.ensures
