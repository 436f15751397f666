use Rattle.net_core.proofs.Library.{∥∥₁_map, IfOk-weaker}
use Rattle.planner.proofs.SnapshotGiven.{bounds_known, multipliers_known, shares_known, worked_for}
use Rattle.planner.proofs.after_rounds.work_out.Goals as goal

pub counts_and_bound-requires-clause-cuts : goal.counts_and_bound-requires-clause-cuts
counts_and_bound-requires-clause-cuts g c =
    bounds_known (worked_for c.requires.pool c.requires.few c.in_ok-worked.ensures.worked c.args.instance.now.net.now.checked (g.met.S.Separate.seen c.work_rounds.new.separator))

pub counts_and_bound-requires-clause-best : goal.counts_and_bound-requires-clause-best
counts_and_bound-requires-clause-best g c =
    multipliers_known (worked_for c.requires.pool c.requires.few c.in_ok-worked.ensures.worked c.args.instance.now.net.now.checked (g.met.S.Separate.seen c.work_rounds.new.separator))

pub counts_and_bound-requires-clause-share : goal.counts_and_bound-requires-clause-share
counts_and_bound-requires-clause-share g c =
    shares_known (worked_for c.requires.pool c.requires.few c.in_ok-worked.ensures.worked c.args.instance.now.net.now.checked (g.met.S.Separate.seen c.work_rounds.new.separator))

pub returns-clause-frame : goal.returns-clause-frame
returns-clause-frame g c = c.in_ok-worked.ensures.frame

pub returns-clause-more : goal.returns-clause-more
returns-clause-more g c = c.in_ok-worked.ensures.more

pub returns-clause-worked : goal.returns-clause-worked
returns-clause-worked g c =
    IfOk-weaker c.counts_and_bound.result _ _
    (λ both after. ∥∥₁_map c.in_ok-worked.ensures.worked (λ are. record { worked = c.in_ok-worked.worked; rounds = are; after = after }))
    c.counts_and_bound.ensures

pub returns-clause-alone : goal.returns-clause-alone
returns-clause-alone g c = IfOk-weaker c.counts_and_bound.result _ _ (λ both after. c.in_ok-worked.ensures.alone) c.counts_and_bound.ensures

pub returns-in_err-worked-clause-frame : goal.returns-in_err-worked-clause-frame
returns-in_err-worked-clause-frame g c = c.in_err-worked.ensures.frame

pub returns-in_err-worked-clause-more : goal.returns-in_err-worked-clause-more
returns-in_err-worked-clause-more g c = c.in_err-worked.ensures.more
