use Rattle.std.proofs.Common.{ℕ, ◌≢◌, ◌*◌, List, subst, arith}
use Rattle.plan_terms.specs.Terms.{case_of, Demand, Routing, sent}
use Rattle.plan_checker.{specs.Carried.IsUncarried, specs.Places.{HoldsAt, IsLeastPlace}, specs.inner.Tests.IsFirstPlace, proofs.Places.{groups_more, held_here, held_within, holds_here}}
use Rattle.plan_checker.proofs.overloads.uncarried.Goals as goal

-- demand j isn't carried by a routing
abbrev Misses : List Demand → ℕ → ℕ → Routing → Type 0
Misses demands scale j r = HoldsAt demands j (λ d. sent r.flows j ≢ d.need * scale * r.den)

pub loop-s-preserved : goal.loop-s-preserved
loop-s-preserved c =
    let p = case_of c.args.instance.now in
    let s = c.loop-s.s in
    let r = c.index-routings-s.result in
    groups_more (IsUncarried p c.args.scale c.args.routings.now) s c.loop-s.invariant (λ j h.
    subst (λ ds. (k : ℕ) → Misses ds c.args.scale k r → ⊥) c.items.ensures (subst (IsFirstPlace (λ k. Misses c.items.result.now c.args.scale k r)) c.in_default.is c.in_ok-first.ensures)
    j (held_here c.args.routings.now (λ t. Misses p.demands c.args.scale j) s r c.index-routings-s.is h))

pub returns-in-Some : goal.returns-in-Some
returns-in-Some c =
    let p = case_of c.args.instance.now in
    let s = c.loop-s.s in
    let r = c.index-routings-s.result in
    let at = c.in-Some.at in
    let first = subst (λ ds. IsLeastPlace (λ k. Misses ds c.args.scale k r) at) c.items.ensures (subst (IsFirstPlace (λ k. Misses c.items.result.now c.args.scale k r)) c.in-Some.is c.in_ok-first.ensures) in (
      holds_here c.args.routings.now (λ t. Misses p.demands c.args.scale at) s r c.loop-s-test.true c.index-routings-s.is first.0,
      c.loop-s.invariant,
      λ j lt h. first.1 j lt (held_here c.args.routings.now (λ t. Misses p.demands c.args.scale j) s r c.index-routings-s.is h),
    )

pub returns : goal.returns
returns c = λ s k h. c.loop-s.invariant s k (omega (arith, held_within c.args.routings.now (λ t. Misses c.args.instance.now.demands.now c.args.scale k) s h, c.loop-s-test.false)) h
