use Rattle.std.proofs.Common.{arith, subst, ⊎_elim}
use Rattle.net_core.proofs.Library.{cases_eq}
use Rattle.plan_terms.specs.Terms.{case_of}
use Rattle.report_checker.{specs.inner.Said.IsSaidSeparation, proofs.Apart.{no_survivable, none_named}}
use Rattle.report_checker.proofs.outcomes.check_separated.Goals as goal

pub returns-then-branch-clause-told : goal.returns-then-branch-clause-told
returns-then-branch-clause-told c =
    let found = c.in_ok-is_separated.ensures.0 c.if-branch.true in
    no_survivable (case_of c.args.instance.now) c.args.state.0 c.args.name.now (record { place = c.loop-k.k; separates = found.0; named = found.1 })

pub returns-then-branch-clause-sound : goal.returns-then-branch-clause-sound
returns-then-branch-clause-sound c =
    let found = c.in_ok-is_separated.ensures.0 c.if-branch.true in
    record { place = c.loop-k.k; separates = found.0; named = found.1 }

pub loop-k-preserved : goal.loop-k-preserved
loop-k-preserved c j lt = ⊎_elim
    (λ same found. absurd cc (c.in_ok-is_separated.ensures.1 (subst (IsSaidSeparation (case_of c.args.instance.now) c.args.state.0 c.args.name.now) same found), c.if-branch.false))
    (λ other. c.loop-k.invariant j (omega (arith, lt, other)))
    (cases_eq j c.loop-k.k)

pub returns-clause-told : goal.returns-clause-told
returns-clause-told c = none_named (case_of c.args.instance.now) c.args.state.0 c.args.name.now (λ k lt. c.loop-k.invariant k (omega (arith, lt, c.loop-k-test.false)))
