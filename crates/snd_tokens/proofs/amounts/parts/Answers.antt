use Rattle.std.proofs.Common.{arith, sym, ◌∙◌, zero-add}
use Rattle.snd_tokens.proofs.Points.{without_point, bad_places}
use Rattle.snd_tokens.proofs.amounts.parts.Goals as goal

pub returns-then-point-word : goal.returns-then-point-word
returns-then-point-word c =
    without_point c.args.word.now c.find_byte-point.result (c.find_byte-point.ensures.value ∙ zero-add _) c.if-point-word.true
    (sym c.are_digits.ensures ∙ c.if-not-are_digits.false)

pub returns-then-not-are_digits-2 : goal.returns-then-not-are_digits-2
returns-then-not-are_digits-2 c =
    bad_places c.args.word.now c.find_byte-point.result (c.find_byte-point.ensures.value ∙ zero-add _) (omega arith)
    (sym c.are_digits-2.ensures ∙ c.if-not-are_digits-2.true)
