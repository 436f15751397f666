use Rattle.std.proofs.Common.{◌≡◌, Ok, Err, w64, to_z, of_z, inl, inr, refl, sym, subst, ◌∙◌, arith}
use Rattle.net_core.proofs.Library.{ints, IfOk-weaker, err_from_is_err_and}
use Rattle.key_rows.{proofs.WideTests.key_test, specs.KeyTests.IsWideTest, specs.Names.own_entry, specs.inner.Candidates.{IsJoined, IsKeyTest, IsWithKey}}
use Rattle.key_rows.proofs.ratio_test.with_key.Goals as goal

pub joined-requires-clause-rivals : goal.joined-requires-clause-rivals
joined-requires-clause-rivals c = λ best at.
    let b = c.args.entrant.now.keyed.now in
    let name = c.args.entrant.now.name.now in
    let d = c.args.demand in
    let own : to_z w64 (of_z w64 c.own_of-own.result) ≡ own_entry name d = omega (arith, ints, c.own_of-own.ensures.narrow) ∙ c.own_of-own.ensures.value in record {
      demand = c.requires.demand;
      candidate = subst (λ r. IsKeyTest b d (own_entry name d) (Ok r)) c.in-Some.is (subst (λ z. IsKeyTest b d z (Ok c.in_ok-x.field-0)) own c.in_ok-x.ensures.test);
      placed = c.requires.best best at;
      apart = c.if-is_role.ensures.no refl best at;
    }

pub returns-else-is_role-clause-with_key : goal.returns-else-is_role-clause-with_key
returns-else-is_role-clause-with_key c =
    let b = c.args.entrant.now.keyed.now in
    let name = c.args.entrant.now.name.now in
    let key = c.args.entrant.now.key.now in
    let d = c.args.demand in
    let x = c.in-Some.x in
    let own : to_z w64 (of_z w64 c.own_of-own.result) ≡ own_entry name d = omega (arith, ints, c.own_of-own.ensures.narrow) ∙ c.own_of-own.ensures.value in
    let test = subst (λ r. IsKeyTest b d (own_entry name d) (Ok r)) c.in-Some.is (subst (λ z. IsKeyTest b d z (Ok c.in_ok-x.field-0)) own c.in_ok-x.ensures.test) in
    IfOk-weaker c.joined.result (IsJoined b name key c.args.best x) (IsWithKey b name key d c.args.best) (λ after joined. inr (inr (x, test, joined))) c.joined.ensures.joined

pub returns-in_err-x-clause-wide : goal.returns-in_err-x-clause-wide
returns-in_err-x-clause-wide c =
    let b = c.args.entrant.now.keyed.now in
    let name = c.args.entrant.now.name.now in
    let d = c.args.demand in
    let own : to_z w64 (of_z w64 c.own_of-own.result) ≡ own_entry name d = omega (arith, ints, c.own_of-own.ensures.narrow) ∙ c.own_of-own.ensures.value in
    let wide = key_test b name d c.in_err-x.field-0.0 c.requires.demand (subst (λ z. IsKeyTest b d z (Err c.in_err-x.field-0.0)) own c.in_err-x.ensures.test) in
    let p = err_from_is_err_and c.from_residual.result c.from_residual.ensures.1 in
    rw p.1 (subst (IsWideTest b name) (sym p.2) wide)

pub returns-then-is_role-clause-with_key : goal.returns-then-is_role-clause-with_key
returns-then-is_role-clause-with_key c =
    let b = c.args.entrant.now.keyed.now in
    let name = c.args.entrant.now.name.now in
    let d = c.args.demand in
    let x = c.in-Some.x in
    let own : to_z w64 (of_z w64 c.own_of-own.result) ≡ own_entry name d = omega (arith, ints, c.own_of-own.ensures.narrow) ∙ c.own_of-own.ensures.value in
    let test = subst (λ r. IsKeyTest b d (own_entry name d) (Ok r)) c.in-Some.is (subst (λ z. IsKeyTest b d z (Ok c.in_ok-x.field-0)) own c.in_ok-x.ensures.test) in
    let same = c.if-is_role.ensures.yes refl in
    inr (inl (same.0, same.1, same.2 ∙ test.role, refl))

pub key_candidate-requires-clause-values : goal.key_candidate-requires-clause-values
key_candidate-requires-clause-values c = λ weights all n are le. c.requires.numbers.left c.args.demand weights all n c.requires.demand are le

pub returns-in-None-clause-with_key : goal.returns-in-None-clause-with_key
returns-in-None-clause-with_key c =
    let b = c.args.entrant.now.keyed.now in
    let name = c.args.entrant.now.name.now in
    let d = c.args.demand in
    let own : to_z w64 (of_z w64 c.own_of-own.result) ≡ own_entry name d = omega (arith, ints, c.own_of-own.ensures.narrow) ∙ c.own_of-own.ensures.value in
    inl (subst (λ r. IsKeyTest b d (own_entry name d) (Ok r)) c.in-None.is (subst (λ z. IsKeyTest b d z (Ok c.in_ok-x.field-0)) own c.in_ok-x.ensures.test), refl)
