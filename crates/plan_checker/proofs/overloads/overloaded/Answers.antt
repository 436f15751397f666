use Rattle.std.proofs.Common.{ℕ, ◌≡◌, ◌*◌, ◌<◌, List, subst, sym, arith}
use Rattle.plan_terms.specs.Terms.{case_of, Routing, load}
use Rattle.module_choice.specs.inner.Routes.{weight}
use Rattle.plan_checker.{specs.Carried.IsOverloaded, specs.Places.HoldsAt, specs.inner.Tests.IsFirstPlace, proofs.Carrying.loads_are, proofs.Places.{groups_more, held_here, held_within, holds_here}}
use Rattle.plan_checker.proofs.overloads.overloaded.Goals as goal

-- link j is overloaded by a routing
abbrev Overloads : List ℕ → ℕ → Routing → Type 0
Overloads nums j r = HoldsAt nums j (λ n. n * r.den < load r.flows j)

pub first_overloaded-requires-clause-once : goal.first_overloaded-requires-clause-once
first_overloaded-requires-clause-once c =
    subst (λ (x : Routing). (e : ℕ) → load x.flows e ≡ weight x.flows e) (sym c.index-routings-s.is)
    (loads_are (case_of c.args.instance.now) c.args.routings.now c.requires.form c.requires.paths c.loop-s.s c.index-routings-s.result c.loop-s-test.true)

pub loop-s-preserved : goal.loop-s-preserved
loop-s-preserved c =
    let s = c.loop-s.s in
    let r = c.index-routings-s.result in
    groups_more (IsOverloaded c.args.nums.now c.args.routings.now) s c.loop-s.invariant (λ j h.
    subst (IsFirstPlace (λ k. Overloads c.args.nums.now k r)) c.in_default.is c.in_ok-first.ensures
    j (held_here c.args.routings.now (λ t. Overloads c.args.nums.now j) s r c.index-routings-s.is h))

pub returns-in-Some : goal.returns-in-Some
returns-in-Some c =
    let s = c.loop-s.s in
    let r = c.index-routings-s.result in
    let first = subst (IsFirstPlace (λ k. Overloads c.args.nums.now k r)) c.in-Some.is c.in_ok-first.ensures in (
      holds_here c.args.routings.now (λ t. Overloads c.args.nums.now c.in-Some.at) s r c.loop-s-test.true c.index-routings-s.is first.0,
      c.loop-s.invariant,
      λ j lt h. first.1 j lt (held_here c.args.routings.now (λ t. Overloads c.args.nums.now j) s r c.index-routings-s.is h),
    )

pub returns : goal.returns
returns c = λ s k h. c.loop-s.invariant s k (omega (arith, held_within c.args.routings.now (λ t. Overloads c.args.nums.now k) s h, c.loop-s-test.false)) h
