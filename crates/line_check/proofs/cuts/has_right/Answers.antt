use Rattle.std.proofs.Common.{ℕ, List, Err, ap, ◌∙◌, subst, sym, eqb-true, eq-eqb}
use Rattle.plan_terms.{proofs.Lemmas.right_once, specs.Terms.{graph_in, Joins, case_of, AreKept, IsRight}}
use Rattle.plan_checker.proofs.KeptLengths.{keeps_same, kept_not_zero}
use Rattle.line_check.proofs.cuts.has_right.Goals as goal

pub returns-in-Ok : goal.returns-in-Ok
returns-in-Ok c =
    let g = graph_in (case_of c.args.instance.now) c.args.cut.now.state.0 in
    let demands = c.args.instance.now.demands.now in
    let kept = subst (AreKept g) (sym c.in_ok-lengths.ensures) c.requires.kept in
    let same = keeps_same g c.in_ok-lengths.lengths kept c.in-Ok.made.lengths c.in-Ok.ensures.keeps ∙ c.in_ok-lengths.ensures in
    let own = subst (λ (lengths : List ℕ). IsRight (Joins g) lengths demands c.right.result) same (c.right.ensures.right g c.in-Ok.ensures.cut) in (
      λ t. subst (λ (r : ℕ). IsRight (Joins g) c.args.cut.now.lengths demands r) (eqb-true _ _ t) own,
      λ is. eq-eqb _ _ (right_once (Joins g) c.args.cut.now.lengths demands _ _ own is),
    )

pub unreachable-requires-in-Err-ZeroLengths : goal.unreachable-requires-in-Err-ZeroLengths
unreachable-requires-in-Err-ZeroLengths c =
    let g = graph_in (case_of c.args.instance.now) c.args.cut.now.state.0 in
    let kept = subst (AreKept g) (sym c.in_ok-lengths.ensures) c.requires.kept in
    kept_not_zero g c.in_ok-lengths.lengths kept (c.in-Err-ZeroLengths.ensures.zero.0 (ap Err c.in-Err-ZeroLengths.field-0-is)).1
