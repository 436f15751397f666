use Rattle.std.proofs.Common.{List, ◌∙◌, ap, map, subst}
use Rattle.plan_terms.specs.Terms.{IsBound, Link}
use Rattle.plan_report.specs.Terms.{CertLine}
use Rattle.planner.{specs.inner.Finishing.line_at, specs.declared.own_bound.CertifiedBound.CertifiedBound}
use Rattle.planner.proofs.bound.bound_of_master.Goals as goal

pub returns : goal.returns
returns c =
    let best = c.args.best.now in
    let with_lines : List CertLine → CertifiedBound = λ lines. record {
      certificate = record { den = best.den; lines = lines };
      raw = record { num = best.raw_num; den = best.raw_den };
      bound = c.bound_of.result;
    } in
    record {
      bound = c.bound_of.result;
      is = ap with_lines (c.in_ok-lines_of_multipliers.ensures ∙ ap (map (line_at c.args.worked.now)) c.items.ensures);
      rounded = subst (λ (links : List Link). IsBound links best.raw_num best.raw_den c.bound_of.result) (c.items-2.ensures ∙ c.links.ensures) c.bound_of.ensures;
    }
