use Rattle.std.proofs.Common.{List, All, refl, subst, sym}
use Rattle.plan_terms.specs.Terms.{CutLine, HasShortLengths}
use Rattle.planner.proofs.SnapshotGiven.{made_sound, pool_few, pool_known}
use Rattle.planner.proofs.on_snapshot.plan_survivable.Goals as goal

pub work_out-requires-clause-network : goal.work_out-requires-clause-network
work_out-requires-clause-network g c = sym c.requires.network

pub work_out-requires-clause-states : goal.work_out-requires-clause-states
work_out-requires-clause-states g c = sym c.requires.states

pub work_out-requires-clause-survivable : goal.work_out-requires-clause-survivable
work_out-requires-clause-survivable g c = c.requires.survivable

pub work_out-requires-clause-few : goal.work_out-requires-clause-few
work_out-requires-clause-few g c = pool_few c.requires.snapshot (g.met.S.Separate.seen c.args.separator.now)

pub work_out-requires-clause-pool : goal.work_out-requires-clause-pool
work_out-requires-clause-pool g c =
    pool_known c.args.net.now c.args.states.now (g.S.Separate.seen_of c.args.separator.now).history c.args.snapshot c.requires.belong c.requires.snapshot
    (subst (λ (xs : List CutLine). All HasShortLengths xs) c.items.ensures c.are_short_cuts.ensures)

pub returns-in-Ok-clause-frame : goal.returns-in-Ok-clause-frame
returns-in-Ok-clause-frame g c = c.in-Ok.ensures.frame

pub returns-in-Ok-clause-more : goal.returns-in-Ok-clause-more
returns-in-Ok-clause-more g c = c.in-Ok.ensures.more

pub returns-in-Ok-clause-answer : goal.returns-in-Ok-clause-answer
returns-in-Ok-clause-answer g c =
    let before = c.args.separator.now in
    let now = c.work_out.new.separator in
    made_sound c.requires.snapshot
    (pool_known c.args.net.now c.args.states.now (g.S.Separate.seen_of before).history c.args.snapshot c.requires.belong c.requires.snapshot
    (subst (λ (xs : List CutLine). All HasShortLengths xs) c.items.ensures c.are_short_cuts.ensures))
    c.args.net.now.checked (g.met.S.Separate.seen before) (g.met.S.Separate.seen now)
    c.in-Ok.chosen c.in-Ok.bound c.make_plan.result c.requires.belong c.in-Ok.ensures.worked c.make_plan.ensures.named refl c.make_plan.ensures.plan

pub returns-in-Ok-clause-alone : goal.returns-in-Ok-clause-alone
returns-in-Ok-clause-alone g c = c.in-Ok.ensures.alone

pub returns-in-Err-clause-frame : goal.returns-in-Err-clause-frame
returns-in-Err-clause-frame g c = c.in-Err.ensures.frame

pub returns-in-Err-clause-more : goal.returns-in-Err-clause-more
returns-in-Err-clause-more g c = c.in-Err.ensures.more
