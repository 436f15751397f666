use Rattle.std.proofs.Common.{◌≡◌, ◌∙◌, ◌+◌, ◌<◌, ◌++◌, inl, true, false, [], ◌∷◌, All, ap, arith, length, refl, subst, sym, take, take_all}
use Rattle.net_core.proofs.Library.{∥∥₁_elim, props, take_more, All-push}
use Rattle.plan_terms.specs.Terms.{CutLine, IsCut, case_of}
use Rattle.tree_search.specs.Terms.{line_of_cut, IsMadeFrom, names_by}
use Rattle.proof_report.proofs.handed_cuts.work_out.Goals as goal

pub loop-cut-preserved : goal.loop-cut-preserved
loop-cut-preserved c =
    let p = case_of c.args.instance.now in
    let cuts = c.args.cuts.now in
    let i = c.loop-cut.cut-index in
    let cut = c.cut-item.result in
    let inside : i < length cuts = omega (arith, c.loop-cut-test.true) in
    let taken : take (i + 1) cuts ≡ take i cuts ++ cut ∷ [] = take_more cuts i cut inside ∙ ap (λ (x : CutLine). take i cuts ++ x ∷ []) (sym c.cut-item.is) in
    let made : IsMadeFrom p (names_by []) false (inl cut) c.in_ok-tested_cut.field-0.line =
    (c.in_ok-tested_cut.ensures [] false c.in_ok-tested_cut.field-0.line).1 (c.if-not-branch.false, refl) in
    subst (All (IsCut p)) (sym taken) (All-push (IsCut p) (take i cuts) cut c.loop-cut.invariant made.0)

pub returns : goal.returns
returns c = subst (All (IsCut (case_of c.args.instance.now))) (take_all c.loop-cut.cut-index c.args.cuts.now (omega (arith, c.loop-cut-test.false))) c.loop-cut.invariant

-- a cut that is known to be one is found to be one
pub unreachable-requires : goal.unreachable-requires
unreachable-requires c =
    let p = case_of c.args.instance.now in
    let i = c.loop-cut.cut-index in
    let cut = c.cut-item.result in
    let told : ∥ IsCut p cut ∥₁ = subst (λ (x : CutLine). ∥ IsCut p x ∥₁) (sym c.cut-item.is) (c.requires i cut (omega (arith, c.loop-cut-test.true))) in
    ∥∥₁_elim told (hlevel props)
    (λ (is : IsCut p cut).
    let made : IsMadeFrom p (names_by []) false (inl cut) (line_of_cut p.links cut) = (is, λ no. absurd (let e : false ≡ true = no in cc e), refl) in
    let sound : c.in_ok-tested_cut.field-0.sound ≡ true = ((c.in_ok-tested_cut.ensures [] false (line_of_cut p.links cut)).0 made).0 in
    absurd (let e : false ≡ true = sym c.if-not-branch.true ∙ sound in cc e))
