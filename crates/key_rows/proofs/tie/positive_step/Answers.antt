use Rattle.std.proofs.Common.{◌≡◌, ◌+ℤ◌, ◌*ℤ◌, length, w64, to_z, of_z, ap, sym, subst, ◌∙◌, arith}
use Rattle.net_core.proofs.Library.{w128, ints}
use Rattle.checked_fraction.specs.Terms.{num}
use Rattle.simplex_law.specs.Terms.{dot}
use Rattle.key_rows.{specs.Names.left_uses, specs.inner.Candidates.{lowered_step, IsWideRowTest}, proofs.Stepping.{step_positive, step_lowered}, proofs.WideTests.wide_row}
use Rattle.key_rows.proofs.tie.positive_step.Goals as goal

pub returns-in-Ok-clause-positive : goal.returns-in-Ok-clause-positive
returns-in-Ok-clause-positive c =
    let b = c.args.entrant.now.keyed.now in
    let name = c.args.entrant.now.name.now in
    let key = c.args.entrant.now.key.now in
    let spare = c.key_step.new.room.spare in
    let back : to_z w128 (of_z w128 c.in-Ok.step) ≡ c.in-Ok.step = omega (arith, ints, c.key_step.type_inv) in
    let own : to_z w64 (of_z w64 c.own_of-own.result) ≡ c.own_of-own.result = omega (arith, ints, c.own_of-own.ensures.narrow) in
    let step : c.in-Ok.step ≡ lowered_step b name key c.args.demand spare =
    c.in-Ok.ensures.step ∙ ap (λ z. dot (length b.rows) (num spare.nums) (left_uses name key) +ℤ (spare.den *ℤ z)) (own ∙ c.own_of-own.ensures.value) in
    rw back (step_positive b name key c.args.demand c.args.x.now spare c.in-Ok.step c.requires.entrant.products c.requires.candidate c.in-Ok.ensures.row step)

pub returns-in-Ok-clause-lowered : goal.returns-in-Ok-clause-lowered
returns-in-Ok-clause-lowered c =
    let b = c.args.entrant.now.keyed.now in
    let name = c.args.entrant.now.name.now in
    let key = c.args.entrant.now.key.now in
    let spare = c.key_step.new.room.spare in
    let back : to_z w128 (of_z w128 c.in-Ok.step) ≡ c.in-Ok.step = omega (arith, ints, c.key_step.type_inv) in
    let own : to_z w64 (of_z w64 c.own_of-own.result) ≡ c.own_of-own.result = omega (arith, ints, c.own_of-own.ensures.narrow) in
    let step : c.in-Ok.step ≡ lowered_step b name key c.args.demand spare =
    c.in-Ok.ensures.step ∙ ap (λ z. dot (length b.rows) (num spare.nums) (left_uses name key) +ℤ (spare.den *ℤ z)) (own ∙ c.own_of-own.ensures.value) in
    rw back (step_lowered b name key c.args.demand c.args.x.now spare c.in-Ok.step c.requires.entrant.products c.requires.candidate c.in-Ok.ensures.row step)

pub returns-in-Err-clause-wide : goal.returns-in-Err-clause-wide
returns-in-Err-clause-wide c =
    let b = c.args.entrant.now.keyed.now in
    let role = c.args.x.now.role in
    subst (IsWideRowTest b c.args.demand role) (sym c.wide_key.ensures) (wide_row b c.args.demand role c.in-Err.wide c.in-Err.ensures.wide)
