use Rattle.std.proofs.Common.{◌≡◌, ◌*◌, refl, arith}
use Rattle.line_check.specs.Testing.{weighed}
use Rattle.tree_check.{specs.BoxValues.{asked_right, given_free}, specs.inner.Weighing.total_of, proofs.ValuesTold.{gains_are, losses_are, value_is_told}}
use Rattle.tree_check.proofs.value.value_of.Goals as goal

pub returns : goal.returns
returns c =
    let w = c.args.of.now in
    let s = c.args.sums.now in
    let lines = weighed w.tested.now w.lines.now in
    let asked : c.asked_right-asked.result ≡ asked_right lines = omega (arith, c.asked_right-asked.ensures, c.if-asked-ge-WIDE.false) in
    let given : c.given_free-given.result ≡ given_free lines = omega (arith, c.given_free-given.ensures, c.if-given-ge-WIDE.false) in
    let up = total_of c.plus-gains.result in
    let down = total_of c.plus-2.result in
    value_is_told w s c.requires.gains up down c.rounded.result c.requires.den w.narrow c.requires.nums
    (omega (arith, asked, c.if-asked-ge-WIDE.false)) (omega (arith, given, c.if-given-ge-WIDE.false)) (c.if-not-is_near.ensures.0 refl)
    (gains_are w s c.requires.gains up (w.den * c.certain_setups.result) (let e = c.certain_setups.ensures.setups in cc e) (omega (arith, c.plus-gains.ensures.total, c.plus.ensures.total, asked)))
    (losses_are w s c.requires.gains down (omega (arith, c.plus-2.ensures.total, given)))
    c.rounded.ensures
