use Rattle.std.{proofs.Common.{◌≡◌, ℕ, rules, sym, subst, get_or, length}, specs.declared.cmp.Reverse.Reverse}
use Rattle.net_core.proofs.Library.{always_returns_same, IsStableBy}
use Rattle.greedy_router.{specs.inner.Orders.AreFalling, proofs.Falling.{Higher, falls}}
use Rattle.greedy_router.proofs.order.by_falling_amount.Goals as goal

pub returns-clause-falling : goal.returns-clause-falling
returns-clause-falling c =
    let amounts = c.args.amounts.now in
    let key : ℕ → Reverse ℕ = λ place. record { 0 = get_or amounts place 0 } in
    let keyed = always_returns_same _ (λ a r. r ≡ key a.0.now) _ (λ a r next called. search rules) in
    let sorted = c.in_ok-sort_by_key.ensures.sorted key keyed in
    let stable = c.in_ok-sort_by_key.ensures.stable key keyed in
    subst (AreFalling amounts) (sym c.from_vec.ensures)
    (falls amounts (length amounts) c.sort_by_key.new.self.items sorted (subst (λ all. IsStableBy (Higher amounts) all c.sort_by_key.new.self.items) c.in_ok-order.ensures stable))
