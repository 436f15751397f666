use Rattle.std.{proofs.Common.{◌+◌, inr, arith}, proofs.lemmas.Bool.both_ways}
use Rattle.plan_terms.specs.Terms.{case_of}
use Rattle.tree_check.proofs.Walked.{accepted, not_founded}
use Rattle.tree_check.proofs.walk.walk_left.Goals as goal

pub returns-then-not-follows-clause-stops : goal.returns-then-not-follows-clause-stops
returns-then-not-follows-clause-stops c =
    let p = case_of c.args.tests.now.instance.now in
    let proof = c.args.proof.now in
    let walked = c.in_ok-found.ensures.walked in
    inr (inr (not_founded p proof c.take_all.new.left.items c.in_ok-found.found walked (c.len-then-not-follows.result + 1) (omega (arith, c.len-then-not-follows.ensures)) (omega (arith, c.len.ensures, c.if-len-gt0.false))
    (λ follows. both_ways c.follows.result c.if-not-follows.true ((c.follows.ensures p proof walked.found_is).1 follows))))

pub returns-clause-accepted : goal.returns-clause-accepted
returns-clause-accepted c =
    let p = case_of c.args.tests.now.instance.now in
    let proof = c.args.proof.now in
    let walked = c.in_ok-found.ensures.walked in
    accepted p proof c.take_all.new.left.items c.in_ok-found.found walked (omega (arith, c.len.ensures, c.if-len-gt0.false)) ((c.follows.ensures p proof walked.found_is).0 c.if-not-follows.false)
