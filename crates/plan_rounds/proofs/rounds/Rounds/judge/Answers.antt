use Rattle.std.proofs.Common.{◌-◌, arith, inl, inr, refl, subst}
use Rattle.net_core.proofs.Library.{∥∥₁_map}
use Rattle.plan_rounds.{specs.inner.Turns.AddsFirst, proofs.Results.if_ok}
use Rattle.plan_rounds.proofs.rounds.Rounds.judge.Goals as goal

pub returns-then-len-eq0 : goal.returns-then-len-eq0
returns-then-len-eq0 c = if_ok c.ended.result _ _ (λ turn told. ∥∥₁_map told (λ ends. inr (inr (inl (omega (arith, c.if-len-eq0.true, c.len.ensures)), refl, ends)))) c.ended.ensures

pub returns-then-is_some : goal.returns-then-is_some
returns-then-is_some c =
    if_ok c.ended-then-is_some.result _ _ (λ turn told. ∥∥₁_map told (λ ends. inr (inr (inr (omega (arith, c.if-room-eq0.false, c.len-2.ensures)), refl, ends)))) c.ended-then-is_some.ensures

pub returns : goal.returns
returns c =
    if_ok c.go_on.result _ _
    (λ turn told. ∣ inr (inl (
      omega (arith, c.if-len-eq0.false, c.len.ensures),
      omega (arith, c.if-room-eq0.false, c.len-2.ensures),
      subst (λ n. AddsFirst (c.args.self.now.most - n) c.args.answered.found c.args.candidates.now c.go_on.new.candidates) c.len-2.ensures told.0,
      told.1,
    )) ∣₁)
    c.go_on.ensures
