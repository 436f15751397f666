use Rattle.std.proofs.Common.{arith}
use Rattle.snd_tokens.proofs.Sizes.{size_within}
use Rattle.sndlib_reader.proofs.skip.skip.Goals as goal

pub overflow_add-depth : goal.overflow_add-depth
overflow_add-depth c =
    let start = c.args.text.now in
    omega (arith, c.loop-depth.invariant.1, size_within start.at start.bytes.now, start.fits)
