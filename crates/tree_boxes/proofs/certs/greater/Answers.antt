use Rattle.std.proofs.Common.{arith}
use Rattle.tree_check.proofs.Naming.{value_once}
use Rattle.tree_boxes.{specs.Searches.aimed, proofs.Knowing.{value_here, value_told}}
use Rattle.tree_boxes.proofs.certs.greater.Goals as goal

pub returns-then-value-best-clause-most : goal.returns-then-value-best-clause-most
returns-then-value-best-clause-most c = λ value has.
    let here = value_here c.args.aim.now c.args.known.now.tested c.tests-tests.result c.tests-tests.ensures.instance c.tests-tests.ensures.tested c.args.boxed.now c.args.cert.now c.in-Some.value c.in-Some.ensures in
    let same = value_once c.args.known.now.tested (aimed c.args.aim.now).links c.args.boxed.now c.args.cert.now value c.in-Some.value has here in
    omega (arith, same, c.if-value-best.true)

pub returns-in-None-clause-most : goal.returns-in-None-clause-most
returns-in-None-clause-most c = λ value has.
    absurd (c.in-None.ensures value (value_told c.args.aim.now c.args.known.now.tested c.tests-tests.result c.tests-tests.ensures.instance c.tests-tests.ensures.tested c.args.boxed.now c.args.cert.now value has))

pub returns-in_ok-cert-in-Some-clause-most : goal.returns-in_ok-cert-in-Some-clause-most
returns-in_ok-cert-in-Some-clause-most c = λ value has.
    let here = value_here c.args.aim.now c.args.known.now.tested c.tests-tests.result c.tests-tests.ensures.instance c.tests-tests.ensures.tested c.args.boxed.now c.args.cert.now c.in-Some.value c.in-Some.ensures in
    let same = value_once c.args.known.now.tested (aimed c.args.aim.now).links c.args.boxed.now c.args.cert.now value c.in-Some.value has here in
    omega (arith, same)
