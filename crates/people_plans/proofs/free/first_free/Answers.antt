use Rattle.std.{proofs.Common.{◌≡◌, ◌∙◌, ◌+◌, ◌<◌, ◌++◌, true, false, [], ◌∷◌, All, ap, arith, length, refl, subst, sym, take}, proofs.lemmas.List.{take_all, take_more}}
use Rattle.net_core.proofs.Library.{slice_get_read, All-push}
use Rattle.plan_terms.specs.Terms.{Link, Module}
use Rattle.people_plans.specs.PlansForPeople.{IsDearLink}
use Rattle.people_plans.proofs.free.first_free.Goals as goal

pub loop-link-preserved : goal.loop-link-preserved
loop-link-preserved c =
    let ls = c.args.links.now in
    let i = c.loop-link.link-index in
    let l = c.link-item.result in
    let inside : i < length ls = omega (arith, c.loop-link-test.true) in
    let taken : take (i + 1) ls ≡ take i ls ++ l ∷ [] = take_more ls i l inside ∙ ap (λ (x : Link). take i ls ++ x ∷ []) (sym c.link-item.is) in
    subst (All IsDearLink) (sym taken) (All-push IsDearLink (take i ls) l c.loop-link.invariant
    (subst (All (λ (m : Module). 0 < m.cost)) c.items.ensures (c.are_dear.ensures.0 c.if-not-are_dear.false)))

pub returns-then-not-are_dear : goal.returns-then-not-are_dear
returns-then-not-are_dear c =
    let ls = c.args.links.now in
    let i = c.loop-link.link-index in
    let l = c.link-item.result in
    let inside : i < length ls = omega (arith, c.loop-link-test.true) in (
      i,
      record {
        at = slice_get_read ls (length ls) i l refl inside c.link-item.is;
        here = λ dear.
            let e : false ≡ true = sym c.if-not-are_dear.true ∙ c.are_dear.ensures.1 (subst (All (λ (m : Module). 0 < m.cost)) (sym c.items.ensures) dear) in
            absurd (cc e);
        before = c.loop-link.invariant;
      },
    )

pub returns : goal.returns
returns c = subst (All IsDearLink) (take_all c.loop-link.link-index c.args.links.now (omega (arith, c.loop-link-test.false))) c.loop-link.invariant
