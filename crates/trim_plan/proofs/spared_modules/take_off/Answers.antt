use Rattle.std.proofs.Common.{List, ℕ, subst, sym}
use Rattle.plan_terms.specs.Terms.{case_of}
use Rattle.trim_plan.{specs.Trimmed.AreAtMost, proofs.AtMost.{counts_same, limits_at_most, one_less_at_most, shape_at_most}, proofs.Routed.{routed_lower, routed_still}}
use Rattle.trim_plan.proofs.spared_modules.take_off.Goals as goal

pub stop-requires-clause-shape : goal.stop-requires-clause-shape
stop-requires-clause-shape c =
    let counts = c.args.counts.now in
    let le = subst (λ (l : List (List ℕ)). AreAtMost l counts) (sym c.in_ok-lower.ensures) (one_less_at_most counts c.args.place.link c.args.place.«module») in
    shape_at_most c.args.instance.now.net.now.links c.in_ok-lower.lower counts le c.requires.routed.shape

pub stop-requires-clause-limits : goal.stop-requires-clause-limits
stop-requires-clause-limits c =
    let counts = c.args.counts.now in
    let le = subst (λ (l : List (List ℕ)). AreAtMost l counts) (sym c.in_ok-lower.ensures) (one_less_at_most counts c.args.place.link c.args.place.«module») in
    limits_at_most c.args.instance.now.net.now.links c.in_ok-lower.lower counts le c.requires.routed.limits

pub returns-in-None-clause-routed : goal.returns-in-None-clause-routed
returns-in-None-clause-routed c =
    let counts = c.args.counts.now in
    let le = subst (λ (l : List (List ℕ)). AreAtMost l counts) (sym c.in_ok-lower.ensures) (one_less_at_most counts c.args.place.link c.args.place.«module») in
    routed_lower (case_of c.args.instance.now) counts c.in_ok-lower.lower c.args.test.now c.stop.new.self le c.requires.routed c.in_ok-found.ensures.sound (c.in_ok-found.ensures.carried c.in-None.is)

pub returns-in-None-clause-fewer : goal.returns-in-None-clause-fewer
returns-in-None-clause-fewer c =
    subst (λ (l : List (List ℕ)). AreAtMost l c.args.counts.now) (sym c.in_ok-lower.ensures) (one_less_at_most c.args.counts.now c.args.place.link c.args.place.«module»)

pub returns-in-Some-clause-routed : goal.returns-in-Some-clause-routed
returns-in-Some-clause-routed c =
    let counts = c.args.counts.now in
    let le = subst (λ (l : List (List ℕ)). AreAtMost l counts) (sym c.in_ok-lower.ensures) (one_less_at_most counts c.args.place.link c.args.place.«module») in
    routed_still (case_of c.args.instance.now) counts c.in_ok-lower.lower c.args.test.now c.stop.new.self le c.requires.routed c.in_ok-found.ensures.sound c.in_ok-found.ensures.kept

pub returns-in-Some-clause-fewer : goal.returns-in-Some-clause-fewer
returns-in-Some-clause-fewer c = counts_same c.args.counts.now
