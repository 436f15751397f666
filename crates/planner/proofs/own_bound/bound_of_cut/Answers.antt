use Rattle.std.proofs.Common.{◌^◌, ◌<◌, ◌∙◌, List, [], ◌∷◌, All, ap, arith, inl, inr, refl, subst, sym}
use Rattle.plan_terms.specs.Terms.{CutLine}
use Rattle.plan_report.specs.Terms.{CertLine}
use Rattle.planner.specs.inner.Candidates.{IsBoundOfCut}
use Rattle.planner.proofs.own_bound.bound_of_cut.Goals as goal

pub returns-then-own-eq0 : goal.returns-then-own-eq0
returns-then-own-eq0 c =
    let own = c.own_certificate-own in
    record {
      own = own.result;
      certificate = record { multiplier = own.ensures.multiplier; raw = own.ensures.raw; rounded = own.ensures.bound; num = own.ensures.num; den = own.ensures.den };
      small = subst (All (λ x. x < 2 ^ 32)) c.items.ensures c.are_short.ensures;
      is = inl (c.if-own-eq0.true, c.bound_of_none.ensures);
    }

pub returns : goal.returns
returns c =
    let own = c.own_certificate-own in
    let links = c.args.net.now.links in
    let line : CutLine → List CertLine = λ x. record { num = own.result.multiplier.num; spot = c.args.spot; cut = x } ∷ [] in
    subst
    (λ (lines : List CertLine). IsBoundOfCut links c.args.cut.now c.args.spot
    (record { certificate = record { den = own.result.multiplier.den; lines = lines }; raw = own.result.raw; bound = own.result.bound }))
    (sym (c.in_ok-only_line.ensures ∙ ap line c.in_ok-copy.ensures))
    (record {
      own = own.result;
      certificate = record { multiplier = own.ensures.multiplier; raw = own.ensures.raw; rounded = own.ensures.bound; num = own.ensures.num; den = own.ensures.den };
      small = subst (All (λ x. x < 2 ^ 32)) c.items.ensures c.are_short.ensures;
      is = inr (omega (arith, c.if-own-eq0.false), refl);
    })
