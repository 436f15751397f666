use Rattle.std.proofs.Common.{List, ℕ, refl, subst, sym}
use Rattle.plan_terms.specs.Terms.{Routing, case}
use Rattle.able_counts.specs.AbleTests.{AreRoutedCounts}
use Rattle.trim_plan.{specs.Trimmed.{AreAtMost, IsTrimming}, proofs.Plans.trimming_of}
use Rattle.trim_plan.proofs.trimmed_plan.trim_plan.Goals as goal

pub trim_counts-requires-clause-routed : goal.trim_counts-requires-clause-routed
trim_counts-requires-clause-routed c =
    let p = case c.args.net.now c.args.states.now c.args.plan.now.demands in
    subst (λ (cs : List (List ℕ)). AreRoutedCounts p cs c.in_ok-test.test) (sym c.in_ok-counts.ensures) c.in_ok-test.ensures

pub returns : goal.returns
returns c =
    let p = case c.args.net.now c.args.states.now c.args.plan.now.demands in
    let plan = c.args.plan.now in
    let counts = c.trim_counts.new.counts in
    let cost = c.cost-cost.result in
    let blocks = c.in_ok-blocks.blocks in
    let done = c.in_ok-blocks.ensures in
    subst (λ (rs : List Routing). IsTrimming p plan (record { plan = record plan { counts = counts; cost = cost; routings = rs }; blocks = blocks })) (sym c.into_routings.ensures)
    (trimming_of p plan c.trim_counts.new.test counts cost blocks refl c.requires.routed done.routed
    (subst (AreAtMost counts) c.in_ok-counts.ensures done.fewer) c.cost-cost.ensures done.blocks)
