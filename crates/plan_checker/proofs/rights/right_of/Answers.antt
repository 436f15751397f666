use Rattle.std.proofs.Common.{ℕ, List, Err, ap, ◌∙◌, subst, sym}
use Rattle.plan_terms.specs.Terms.{graph_in, Joins, case_of, AreKept, IsRight}
use Rattle.plan_checker.proofs.KeptLengths.{keeps_same, kept_not_zero}
use Rattle.plan_checker.proofs.rights.right_of.Goals as goal

pub returns-in-Ok : goal.returns-in-Ok
returns-in-Ok c =
    let g = graph_in (case_of c.args.instance.now) c.args.cut.now.state.0 in
    let kept = subst (AreKept g) (sym c.in_ok-lengths.ensures) c.requires.kept in
    subst (λ (lengths : List ℕ). IsRight (Joins g) lengths c.args.instance.now.demands.now c.right.result)
    (keeps_same g c.in_ok-lengths.lengths kept c.in-Ok.made.lengths c.in-Ok.ensures.keeps ∙ c.in_ok-lengths.ensures)
    (c.right.ensures.right g c.in-Ok.ensures.cut)

pub unreachable-requires-in-Err-ZeroLengths : goal.unreachable-requires-in-Err-ZeroLengths
unreachable-requires-in-Err-ZeroLengths c =
    let g = graph_in (case_of c.args.instance.now) c.args.cut.now.state.0 in
    let kept = subst (AreKept g) (sym c.in_ok-lengths.ensures) c.requires.kept in
    kept_not_zero g c.in_ok-lengths.lengths kept (c.in-Err-ZeroLengths.ensures.zero.0 (ap Err c.in-Err-ZeroLengths.field-0-is)).1
