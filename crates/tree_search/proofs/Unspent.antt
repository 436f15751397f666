-- a limit that is never reached
use Rattle.std.proofs.Common.{arith}
use Rattle.tree_check.specs.declared.proof.Node.TheVariants.{Spent}
use Rattle.tree_search.specs.Proving.{NoneIsSpent}

pub none_is_spent : NoneIsSpent
none_is_spent p given handed limit proof i box cert charged is room stands =
    let few = is.fewer charged in
    let spent = (is.causes i box (Spent cert) stands).0 in
    absurd (omega (arith, few, spent, room))
