use Rattle.std.proofs.Common.{◌+◌, ◌-◌, ◌*◌, get_or, drop, arith, sym, ap, ◌∙◌}
use Rattle.snd_tokens.{specs.Digits.number_after, proofs.Numbers.{number_after-digit, number_after-le}}
use Rattle.snd_tokens.proofs.digits.number_below.Goals as goal

pub returns-in_err-so_far : goal.returns-in_err-so_far
returns-in_err-so_far c =
    let digits = c.args.digits.now in
    let i = c.loop-digit.digit-index in
    let step = number_after-digit c.loop-digit.so_far digits i c.loop-digit-test.true in
    let more = number_after-le (c.loop-digit.so_far * 10 + (get_or digits i 0 - 48)) (drop (i + 1) digits) in
    rw c.from_residual.ensures (omega (arith, c.in_err-so_far.ensures, c.loop-digit.invariant.0, step, more))

pub loop-digit-preserved : goal.loop-digit-preserved
loop-digit-preserved c =
    let digits = c.args.digits.now in
    let i = c.loop-digit.digit-index in (
      ap (λ n. number_after n (drop (i + 1) digits)) c.in_ok-so_far.ensures.0
          ∙ sym (number_after-digit c.loop-digit.so_far digits i c.loop-digit-test.true) ∙ c.loop-digit.invariant.0,
      c.in_ok-so_far.ensures.1,
    )
