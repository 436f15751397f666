use Rattle.std.proofs.Common.{arith}
use Rattle.routing_tests.proofs.routings.are_joined.Goals as goal

pub returns : goal.returns
returns c = λ yes k d at needed apart.
    (c.is_survivable.ensures yes) c.args.state k (omega (arith, c.requires)) (record { demand = d; at = at; needed = needed; apart = apart })
