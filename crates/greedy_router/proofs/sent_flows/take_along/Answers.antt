use Rattle.std.proofs.Common.{length-set, ◌∙◌, arith}
use Rattle.plan_terms.specs.Terms.{LinkId}
use Rattle.greedy_router.proofs.Taking.{enough_left, take_step}
use Rattle.greedy_router.proofs.sent_flows.take_along.Goals as goal

abbrev first_link : LinkId
first_link = record { 0 = 0 }

pub overflow_sub-spares : goal.overflow_sub-spares
overflow_sub-spares c =
    let i = c.loop-e.e-index in
    let lt = c.loop-e-test.true in
    enough_left c.args.path.now i c.args.num first_link c.loop-e.spares c.args.spares.now c.requires.distinct lt (c.requires.enough i first_link lt) c.loop-e.invariant.taken

pub loop-e-preserved : goal.loop-e-preserved
loop-e-preserved c =
    let i = c.loop-e.e-index in
    let lt = c.loop-e-test.true in
    record {
      count = length-set _ _ _ ∙ c.loop-e.invariant.count;
      taken = take_step c.args.path.now i c.args.num first_link c.loop-e.spares c.args.spares.now c.requires.distinct lt (c.requires.enough i first_link lt) c.loop-e.invariant.taken
          (omega (arith, c.requires.known i first_link lt, c.loop-e.invariant.count));
    }
