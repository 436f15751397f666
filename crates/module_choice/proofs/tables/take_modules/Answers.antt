use Rattle.std.proofs.Common.{arith, refl, subst, sym}
use Rattle.plan_terms.specs.Terms.{Module}
use Rattle.module_choice.proofs.LeastCosts.{AreTakenSoFar, kind_carries, kind_known, taken_all, taken_next, taken_start}
use Rattle.module_choice.proofs.tables.take_modules.Goals as goal

abbrev none : Module
none = record { capacity = 0; cost = 0 }

pub loop-left-init : goal.loop-left-init
loop-left-init c = subst (AreTakenSoFar c.args.modules.now c.args.entries.now c.args.steps c.args.steps) (sym c.requires.none) (taken_start c.args.modules.now c.args.entries.now c.args.steps)

pub offset_bounds-counts-kind : goal.offset_bounds-counts-kind
offset_bounds-counts-kind c = omega (arith, c.requires.kinds, kind_known c.args.modules.now c.args.entries.now c.loop-left.left c.requires.least c.loop-left-test.true (omega (arith, c.loop-left.invariant.inside, c.requires.inside)))

pub bounds-counts-kind : goal.bounds-counts-kind
bounds-counts-kind c = omega (arith, c.loop-left.invariant.shape, kind_known c.args.modules.now c.args.entries.now c.loop-left.left c.requires.least c.loop-left-test.true (omega (arith, c.loop-left.invariant.inside, c.requires.inside)))

pub bounds-counts-kind-in-loop-left : goal.bounds-counts-kind-in-loop-left
bounds-counts-kind-in-loop-left c = omega (arith, c.loop-left.invariant.shape, kind_known c.args.modules.now c.args.entries.now c.loop-left.left c.requires.least c.loop-left-test.true (omega (arith, c.loop-left.invariant.inside, c.requires.inside)))

pub offset_bounds-modules-kind : goal.offset_bounds-modules-kind
offset_bounds-modules-kind c = omega (arith, c.requires.kinds, kind_known c.args.modules.now c.args.entries.now c.loop-left.left c.requires.least c.loop-left-test.true (omega (arith, c.loop-left.invariant.inside, c.requires.inside)))

pub bounds-modules-kind : goal.bounds-modules-kind
bounds-modules-kind c = kind_known c.args.modules.now c.args.entries.now c.loop-left.left c.requires.least c.loop-left-test.true (omega (arith, c.loop-left.invariant.inside, c.requires.inside))

pub loop-left-smaller : goal.loop-left-smaller
loop-left-smaller c = omega (arith, c.saturating_sub-left.ensures, c.loop-left-test.true, kind_carries c.args.modules.now c.args.entries.now c.loop-left.left none c.requires.sound c.requires.least c.loop-left-test.true (omega (arith, c.loop-left.invariant.inside, c.requires.inside)))

pub loop-left-preserved : goal.loop-left-preserved
loop-left-preserved c = taken_next c.args.modules.now c.args.entries.now c.args.steps c.loop-left.left c.saturating_sub-left.result _ c.loop-left.counts none c.requires.sound c.requires.least c.loop-left-test.true (omega (arith, c.loop-left.invariant.inside, c.requires.inside)) refl c.saturating_sub-left.ensures c.loop-left.invariant

pub returns : goal.returns
returns c x at = taken_all c.args.modules.now c.args.entries.now c.args.steps c.loop-left.left c.loop-left.counts c.requires.least (omega (arith, c.loop-left-test.false)) c.loop-left.invariant x at
