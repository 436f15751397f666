use Rattle.std.proofs.Common.{◌≡◌, ◌+◌, ◌<◌, ⊎_elim, arith, subst, sym}
use Rattle.line_check.{specs.Lines.GivesSome, specs.inner.Tables.AreKindsTo, proofs.KindsSoFar.{all_kinds, given_low, no_kinds, one_kind_more}}
use Rattle.line_check.proofs.kinds.kinds_of.Goals as goal

pub loop-last-init : goal.loop-last-init
loop-last-init c = record {
  within = omega arith;
  are = subst (AreKindsTo c.args.links.now c.args.over.now 0) (sym c.new-kinds.ensures) (no_kinds c.args.links.now c.args.over.now);
}

pub returns-then-need-next : goal.returns-then-need-next
returns-then-need-next c =
    all_kinds c.args.links.now c.args.over.now c.loop-last.last c.loop-last.kinds c.loop-last.invariant.are
    (λ n after gives. omega (arith, c.next_kind-next.ensures.least n after gives, given_low c.args.links.now c.args.over.now n gives, c.requires.need, c.if-need-next.true))

pub loop-last-preserved : goal.loop-last-preserved
loop-last-preserved c =
    let links = c.args.links.now in
    let over = c.args.over.now in
    let last = c.loop-last.last in
    let next = c.next_kind-next.result in
    let found : (last < next) × GivesSome links over next = ⊎_elim
    (λ (none : next ≡ c.args.need + 1). absurd (omega (arith, none, c.if-need-next.false)))
    (λ (some : (last < next) × GivesSome links over next). some)
    c.next_kind-next.ensures.is in
    record {
      within = c.if-need-next.false;
      are = subst (AreKindsTo links over next) (sym c.in_ok-push.ensures.ok) (one_kind_more links over last next c.loop-last.kinds c.loop-last.invariant.are found.0 found.1 c.next_kind-next.ensures.least);
    }

pub returns : goal.returns
returns c =
    all_kinds c.args.links.now c.args.over.now c.loop-last.last c.loop-last.kinds c.loop-last.invariant.are
    (λ n after gives. omega (arith, after, given_low c.args.links.now c.args.over.now n gives, c.requires.need, c.loop-last-test.false))
