use Rattle.std.proofs.Common.{arith}
use Rattle.sample_net.proofs.Naming.{numbered_is_name}
use Rattle.sample_net.proofs.names.numbered.Goals as goal

pub name-requires : goal.name-requires
name-requires c =
    rw (c.items.ensures, c.in_ok-put_decimal.ensures, c.in_ok-push.ensures.ok, c.new-text.ensures)
    (numbered_is_name c.args.letter c.args.number c.requires.letter.0 (omega (arith, c.ranges.number.fits)))
