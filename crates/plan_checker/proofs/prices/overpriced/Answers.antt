use Rattle.std.proofs.Common.{ℕ, ◌*◌, ◌<◌, List, get_or, subst, arith}
use Rattle.plan_terms.specs.Terms.{Link, Module, price}
use Rattle.plan_checker.{specs.Certified.IsOverpriced, specs.Places.{HoldsAt, IsLeastPlace}, specs.inner.Lines.certified, proofs.Places.{groups_more, held_read, held_within, holds_read}}
use Rattle.plan_checker.proofs.prices.overpriced.Goals as goal

-- the price of module m is more than its cost
abbrev Exceeds : List Module → ℕ → ℕ → ℕ → Type 0
Exceeds modules den price m = HoldsAt modules m (λ x. den * x.cost < price * x.capacity)

pub loop-e-preserved : goal.loop-e-preserved
loop-e-preserved c =
    let lines = certified c.args.lines.now in
    let e = c.loop-e.e in
    let d = c.index-links-e.result in
    let none = subst (λ x. (k : ℕ) → Exceeds (get_or c.args.links.now e d).modules c.args.den x k → ⊥) c.price_of-price.ensures
    (subst (λ ms. (k : ℕ) → Exceeds ms c.args.den c.price_of-price.result k → ⊥) c.items.ensures c.in_default.ensures) in
    groups_more (IsOverpriced c.args.links.now c.args.den lines) e c.loop-e.invariant (λ j h.
    none j (held_read c.args.links.now (λ t (l : Link). Exceeds l.modules c.args.den (price lines t) j) e d c.loop-e-test.true h))

pub returns-in-Some : goal.returns-in-Some
returns-in-Some c =
    let lines = certified c.args.lines.now in
    let e = c.loop-e.e in
    let d = c.index-links-e.result in
    let at = c.in-Some.at in
    let first = subst (λ x. IsLeastPlace (Exceeds (get_or c.args.links.now e d).modules c.args.den x) at) c.price_of-price.ensures
    (subst (λ ms. IsLeastPlace (Exceeds ms c.args.den c.price_of-price.result) at) c.items.ensures c.in-Some.ensures) in (
      holds_read c.args.links.now (λ t (l : Link). Exceeds l.modules c.args.den (price lines t) at) e d c.loop-e-test.true first.0,
      c.loop-e.invariant,
      λ j lt h. first.1 j lt (held_read c.args.links.now (λ t (l : Link). Exceeds l.modules c.args.den (price lines t) j) e d c.loop-e-test.true h),
    )

pub returns : goal.returns
returns c = λ s k h. c.loop-e.invariant s k (omega (arith, held_within c.args.links.now (λ t (l : Link). Exceeds l.modules c.args.den (price (certified c.args.lines.now) t) k) s h, c.loop-e-test.false)) h
