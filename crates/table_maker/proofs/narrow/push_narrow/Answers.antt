use Rattle.std.proofs.Common.{List, All, Contains, inr, subst, sym, ◌∙◌}
use Rattle.net_core.proofs.Library.{All-push, Contains-push, false≢true}
use Rattle.plan_terms.specs.Terms.{case_of}
use Rattle.line_check.{specs.Terms.IsTestedAs, specs.declared.line.Line.Line}
use Rattle.table_maker.{specs.Made.IsNarrowLine, proofs.HeldLines.narrow_is, proofs.WideLines.narrow_over}
use Rattle.table_maker.proofs.narrow.push_narrow.Goals as goal

pub returns-then-not-is_narrow-clause-new : goal.returns-then-not-is_narrow-clause-new
returns-then-not-is_narrow-clause-new c = λ wide.
    let p = case_of c.args.instance.now in
    let tested = c.args.tested.now in
    let own = subst (λ (l : Line). IsTestedAs p tested (inr l) c.in_ok-test.test) c.in_ok-line.ensures c.in_ok-test.ensures in
    let may = narrow_over p tested c.args.i c.args.divisor c.in_ok-test.test c.requires.inside wide c.requires.divisor.0 c.requires.divisor.1 c.requires.divisor.2 own in
    absurd (false≢true (sym c.if-not-is_narrow.true ∙ c.is_narrow.ensures.1 may))

pub returns-clause-lines : goal.returns-clause-lines
returns-clause-lines c =
    let p = case_of c.args.instance.now in
    let tested = c.args.tested.now in
    let line = c.in_ok-line.line in
    let narrow = narrow_is p tested c.args.i c.args.divisor line c.in_ok-test.test c.in_ok-line.ensures c.in_ok-test.ensures (c.is_narrow.ensures.0 c.if-not-is_narrow.false) in
    subst (All (IsNarrowLine p tested)) (sym c.in_ok-push.ensures.ok) (All-push (IsNarrowLine p tested) c.args.lines.now line c.requires.lines narrow)

pub returns-clause-new : goal.returns-clause-new
returns-clause-new c = λ wide.
    let line = c.in_ok-line.line in
    let last = subst (λ (lines : List Line). Contains lines line) (sym c.in_ok-push.ensures.ok) (Contains-push c.args.lines.now line) in
    (c.args.divisor, c.requires.fine, subst (λ (l : Line). Contains c.push.new.self l) c.in_ok-line.ensures last)
