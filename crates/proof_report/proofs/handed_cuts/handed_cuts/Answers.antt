use Rattle.std.{proofs.Common.{◌≡◌, ◌∙◌, ◌+◌, ◌<◌, ◌++◌, List, [], ◌∷◌, ap, arith, get_or, length, map, subst, sym, take}, proofs.lemmas.List.{map_push, take_more}}
use Rattle.plan_terms.specs.Terms.{CutLine}
use Rattle.plan_types.specs.declared.certificate.CertLine.{CertLine}
use Rattle.proof_report.{specs.ProvedReports.AreHandedIn, proofs.Handing.one_handed}
use Rattle.proof_report.proofs.handed_cuts.handed_cuts.Goals as goal

pub loop-line-preserved : goal.loop-line-preserved
loop-line-preserved c =
    let ls = c.args.certificate.now.lines in
    let i = c.loop-line.line-index in
    let l = c.line-item.result in
    let same = c.line-item.is ∙ ap (λ (xs : List CertLine). get_or xs i l) c.items-line-items.ensures in
    let inside : i < length ls = omega (arith, c.loop-line-test.true, ap (λ (xs : List CertLine). length xs) c.items-line-items.ensures) in
    let taken : take (i + 1) ls ≡ take i ls ++ l ∷ [] = take_more ls i l inside ∙ ap (λ (x : CertLine). take i ls ++ x ∷ []) (sym same) in
    subst (λ (own : List CutLine). AreHandedIn c.args.pool.now own c.hand_in.new.cuts)
    (sym (ap (map (λ (x : CertLine). x.cut)) taken ∙ map_push (λ (x : CertLine). x.cut) (take i ls) l))
    (one_handed c.args.pool.now (map (λ (x : CertLine). x.cut) (take i ls)) c.loop-line.cuts l.cut c.loop-line.invariant c.hand_in.new.cuts c.in_ok-hand_in.ensures.has c.in_ok-hand_in.ensures.more)
