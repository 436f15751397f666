use Rattle.std.{proofs.Common.{◌+◌, ◌<◌, List, Contains, ap, arith, get_or, length, map, subst, sym, take, ◌∙◌}, specs.List.AllZip}
use Rattle.master_bound.specs.declared.answer.Multiplier.{Multiplier}
use Rattle.plan_types.specs.declared.certificate.CertLine.{CertLine}
use Rattle.tree_boxes.proofs.OwnValues.{IsOwnLine, own_more}
use Rattle.tree_boxes.specs.Terms.entry
use Rattle.tree_search.proofs.own_cert.own_cert.Goals as goal

pub unreachable-requires : goal.unreachable-requires
unreachable-requires c =
    let same = c.line-item.is ∙ ap (λ (ls : List CertLine). get_or ls c.loop-line.line-index c.line-item.result) c.items-line-items.ensures in
    let inside : c.loop-line.line-index < length c.args.plan.now.certificate.lines = omega (arith, c.loop-line-test.true, ap (λ (ls : List CertLine). length ls) c.items-line-items.ensures) in
    c.in-None.ensures (subst (λ (l : CertLine). Contains c.args.cuts.now l.cut) (sym same) (c.requires.own c.loop-line.line-index c.line-item.result inside))

pub loop-line-preserved : goal.loop-line-preserved
loop-line-preserved c =
    let ls = c.args.plan.now.certificate.lines in
    let i = c.loop-line.line-index in
    let l = c.line-item.result in
    let same = c.line-item.is ∙ ap (λ (xs : List CertLine). get_or xs i l) c.items-line-items.ensures in
    let inside : i < length ls = omega (arith, c.loop-line-test.true, ap (λ (xs : List CertLine). length xs) c.items-line-items.ensures) in
    subst (λ (ms : List Multiplier). AllZip (IsOwnLine (map entry.Cut c.args.cuts.now)) ms (take (i + 1) ls)) (sym c.in_ok-push-in-Some.ensures.ok)
    (own_more c.args.cuts.now c.loop-line.lines ls i c.in-Some.cut l l inside same c.in-Some.ensures c.loop-line.invariant)
