use Rattle.std.proofs.Common.{ℕ, ◌≤◌, get_or, inl, inr, ⊎_elim, subst, arith, get_or-take, length-take-le}
use Rattle.net_core.proofs.Library.{cases_lt, All-more, All-weaker, Contains-get_or}
use Rattle.path_split.proofs.taking.least_left.Goals as goal

pub loop-k-preserved : goal.loop-k-preserved
loop-k-preserved c =
    let lefts = c.args.lefts.now in
    let trail = c.args.trail.now in
    let i = c.loop-k.k-index in
    let least = c.min-least.result in
    let x : ℕ = get_or trail i 0 in
    let here = Contains-get_or trail i 0 c.loop-k-test.true in
    record {
      most = omega (arith, c.min-least.ensures, c.loop-k.invariant.most);
      left = All-more (λ k. least ≤ get_or lefts k 0) trail i 0 c.loop-k-test.true
          (All-weaker (λ k. c.loop-k.least ≤ get_or lefts k 0) (λ k. least ≤ get_or lefts k 0) (λ k h. omega (arith, c.min-least.ensures, h)) _ c.loop-k.invariant.left)
          (omega (arith, c.min-least.ensures));
      reached = ⊎_elim
          (λ lt. ⊎_elim
          (λ l. inl (omega (arith, c.min-least.ensures, lt, l)))
          (λ r. inr (r.0, r.1, r.2, r.3, omega (arith, c.min-least.ensures, lt, r.4)))
          c.loop-k.invariant.reached)
          (λ ge. inr (here.0, x, here.1, here.2, omega (arith, c.min-least.ensures, ge)))
          (cases_lt c.loop-k.least (get_or lefts x 0));
    }

pub returns-clause-left : goal.returns-clause-left
returns-clause-left c = λ k d lt.
    let trail = c.args.trail.now in
    let n = c.loop-k.k-index in
    let all = length-take-le n trail (omega (arith, c.loop-k.auto.k-index-end)) in
    subst (λ x. c.loop-k.least ≤ get_or c.args.lefts.now x 0) (get_or-take n trail k d (omega (arith, lt, c.loop-k-test.false)))
    (c.loop-k.invariant.left k d (omega (arith, all, lt, c.loop-k-test.false)))
