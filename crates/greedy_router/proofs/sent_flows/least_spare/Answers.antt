use Rattle.std.proofs.Common.{◌≤◌, get_or, inl, inr, ⊎_elim, subst, arith, get_or-take, length-take-le}
use Rattle.net_core.proofs.Library.{cases_lt, All-more, All-weaker, Contains-get_or}
use Rattle.plan_terms.specs.Terms.{LinkId}
use Rattle.greedy_router.proofs.sent_flows.least_spare.Goals as goal

abbrev first_link : LinkId
first_link = record { 0 = 0 }

pub loop-e-preserved : goal.loop-e-preserved
loop-e-preserved c =
    let spares = c.args.spares.now in
    let path = c.args.path.now in
    let i = c.loop-e.e-index in
    let least = c.min-least.result in
    let x : LinkId = get_or path i first_link in
    let here = Contains-get_or path i first_link c.loop-e-test.true in
    record {
      most = omega (arith, c.min-least.ensures, c.loop-e.invariant.most);
      spare = All-more (λ (e : LinkId). least ≤ get_or spares e.0 0) path i first_link c.loop-e-test.true
          (All-weaker (λ (e : LinkId). c.loop-e.least ≤ get_or spares e.0 0) (λ (e : LinkId). least ≤ get_or spares e.0 0) (λ e h. omega (arith, c.min-least.ensures, h)) _ c.loop-e.invariant.spare)
          (omega (arith, c.min-least.ensures));
      reached = ⊎_elim
          (λ lt. ⊎_elim
          (λ l. inl (omega (arith, c.min-least.ensures, lt, l)))
          (λ r. inr (r.0, r.1, r.2, r.3, omega (arith, c.min-least.ensures, lt, r.4)))
          c.loop-e.invariant.reached)
          (λ ge. inr (here.0, x, here.1, here.2, omega (arith, c.min-least.ensures, ge)))
          (cases_lt c.loop-e.least (get_or spares x.0 0));
    }

pub returns-clause-spare : goal.returns-clause-spare
returns-clause-spare c = λ k d lt.
    let path = c.args.path.now in
    let n = c.loop-e.e-index in
    let all = length-take-le n path (omega (arith, c.loop-e.auto.e-index-end)) in
    subst (λ (x : LinkId). c.loop-e.least ≤ get_or c.args.spares.now x.0 0) (get_or-take n path k d (omega (arith, lt, c.loop-e-test.false)))
    (c.loop-e.invariant.spare k d (omega (arith, all, lt, c.loop-e-test.false)))
