use Rattle.std.proofs.Common.{List, ℕ, subst, sym}
use Rattle.trim_plan.{specs.Trimmed.AreAtMost, proofs.AtMost.{limits_at_most, one_less_at_most, shape_at_most}}
use Rattle.plan_swaps.proofs.spared_modules.take_off.Goals as goal

pub returns : goal.returns
returns c =
    let counts = c.args.counts.now in
    let links = c.args.instance.now.net.now.links in
    let lower = c.in_ok-counts.field-0 in
    let le = subst (λ (l : List (List ℕ)). AreAtMost l counts) (sym c.in_ok-counts.ensures) (one_less_at_most counts c.args.place.link c.args.place.«module») in
    record {
      asked = record {
        test = c.requires.asked.test;
        shape = shape_at_most links lower counts le c.requires.asked.shape;
        limits = limits_at_most links lower counts le c.requires.asked.limits;
      };
    }
