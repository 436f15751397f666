use Rattle.std.proofs.Common.{◌≡◌, length, subst, arith}
use Rattle.key_rows.{specs.FirstRoles.IsFirstOfRoles, specs.inner.Tried.{role_in, IsTried}, proofs.Trying.all_first}
use Rattle.key_rows.proofs.ratio_test.with_keys.Goals as goal

pub loop-i-init : goal.loop-i-init
loop-i-init c = record {
  room = c.in_ok-best.ensures.room;
  placed = c.in_ok-best.ensures.placed;
  first = c.in_ok-best.ensures.first c.requires.first;
}

pub loop-i-preserved : goal.loop-i-preserved
loop-i-preserved c = record {
  room = c.in_ok-best-2.ensures.room;
  placed = c.in_ok-best-2.ensures.placed;
  first = c.in_ok-best-2.ensures.first c.loop-i.invariant.first;
}

pub returns-clause-first : goal.returns-clause-first
returns-clause-first c =
    let b = c.args.entrant.now.keyed.now in
    let name = c.args.entrant.now.name.now in
    let end : c.loop-i.i ≡ length b.rows = omega (arith, c.loop-i-test.false, c.loop-i.auto.i-end, c.len-i-end.ensures) in
    all_first b name c.args.entrant.now.key.now (role_in c.loop-i.best) c.requires.entrant.products
    (subst (λ n. IsFirstOfRoles b name (IsTried b name n) (role_in c.loop-i.best)) end c.loop-i.invariant.first)
