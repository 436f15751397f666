use Rattle.std.proofs.Common.{◌-◌, ◌*◌, ◌/◌, ◌%◌, arith}
use Rattle.plan_view.proofs.Rounding.{difference_up, difference_whole, whole_le}
use Rattle.plan_view.proofs.rerouting.difference.Goals as goal

pub overflow_sub-whole : goal.overflow_sub-whole
overflow_sub-whole c =
    let a = c.args.sums.now in
    let b = c.args.den in
    let n = c.args.sums.before in
    let d = c.args.normal in
    whole_le a b n d (a * d - n * b) (a / b) (a % b) (n / d) (n % d) (omega arith) (omega arith) (omega (arith, c.requires.least)) (omega (arith, c.requires.some)) (omega (arith, c.requires.normal_some))

pub returns-then-sums-den : goal.returns-then-sums-den
returns-then-sums-den c rest same =
    let a = c.args.sums.now in
    let b = c.args.den in
    let n = c.args.sums.before in
    let d = c.args.normal in
    difference_up a b n d rest (a / b) (a % b) (n / d) (n % d) (omega arith) (omega arith) same (omega (arith, c.requires.some)) (omega (arith, c.requires.normal_some)) c.if-sums-den.true

pub returns-else-sums-den : goal.returns-else-sums-den
returns-else-sums-den c rest same =
    let a = c.args.sums.now in
    let b = c.args.den in
    let n = c.args.sums.before in
    let d = c.args.normal in
    difference_whole a b n d rest (a / b) (a % b) (n / d) (n % d) (omega arith) (omega arith) same (omega (arith, c.requires.some)) (omega (arith, c.requires.normal_some)) c.if-sums-den.false
