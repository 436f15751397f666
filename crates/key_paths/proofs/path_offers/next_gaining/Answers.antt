use Rattle.std.proofs.Common.{All, length, ◌-◌, sym, subst}
use Rattle.plan_terms.specs.Terms.{graph_of}
use Rattle.key_paths.{specs.inner.Gaining.IsCarrier, proofs.Carried.{all_at, all_left}}
use Rattle.key_paths.proofs.path_offers.next_gaining.Goals as goal

pub still_gains-requires-clause-carrier : goal.still_gains-requires-clause-carrier
still_gains-requires-clause-carrier c =
    let task = c.args.task.now in
    all_at (IsCarrier (graph_of task.graph) task.demands.now) c.loop-c.waiting (length c.loop-c.waiting - 1) c.in-Some.c c.in-Some.ensures.0 c.loop-c.invariant

pub returns-then-still_gains-clause-carriers : goal.returns-then-still_gains-clause-carriers
returns-then-still_gains-clause-carriers c =
    let task = c.args.task.now in
    let P = IsCarrier (graph_of task.graph) task.demands.now in
    subst (All P) (sym c.in-Some.ensures.1) (all_left P c.loop-c.waiting (length c.loop-c.waiting - 1) c.loop-c.invariant)

pub returns-then-still_gains-clause-carrier : goal.returns-then-still_gains-clause-carrier
returns-then-still_gains-clause-carrier c =
    let task = c.args.task.now in
    all_at (IsCarrier (graph_of task.graph) task.demands.now) c.loop-c.waiting (length c.loop-c.waiting - 1) c.in-Some.c c.in-Some.ensures.0 c.loop-c.invariant

pub loop-c-preserved : goal.loop-c-preserved
loop-c-preserved c =
    let task = c.args.task.now in
    let P = IsCarrier (graph_of task.graph) task.demands.now in
    subst (All P) (sym c.in-Some.ensures.1) (all_left P c.loop-c.waiting (length c.loop-c.waiting - 1) c.loop-c.invariant)

pub returns-clause-carriers : goal.returns-clause-carriers
returns-clause-carriers c =
    let task = c.args.task.now in
    subst (All (IsCarrier (graph_of task.graph) task.demands.now)) (sym c.in_default.ensures.1) c.loop-c.invariant
