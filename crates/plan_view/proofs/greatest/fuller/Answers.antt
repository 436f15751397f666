use Rattle.std.proofs.Common.{refl, slice_index, subst}
use Rattle.plan_terms.specs.Terms.{load}
use Rattle.plan_view.{specs.Loads.{IsFirstIfAny, IsFirstOfGreatest}, proofs.Firsts.greatest_next}
use Rattle.plan_view.proofs.greatest.fuller.Goals as goal

pub returns-then-is_used_less : goal.returns-then-is_used_less
returns-then-is_used_less c =
    let was : IsFirstOfGreatest c.args.e (load c.args.flows.now) (slice_index c.args.capacities.now) c.in-Some.other = subst (IsFirstIfAny c.args.e (load c.args.flows.now) (slice_index c.args.capacities.now)) c.in-Some.is c.requires.fullest in
    let less = c.if-is_used_less.ensures.0 refl in
    greatest_next c.args.e (load c.args.flows.now) (slice_index c.args.capacities.now) c.in-Some.other was less.0 less.1
