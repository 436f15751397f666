use Rattle.path_split.proofs.Ending.{remains_first}
use Rattle.path_split.proofs.split.split_even.Goals as goal

pub take_all-requires-clause-state : goal.take_all-requires-clause-state
take_all-requires-clause-state c =
    rw (c.deref_mut.ensures.value, c.in_ok-lefts.ensures) (remains_first c.args.legs.now c.args.nodes _ _ _ c.requires.from c.requires.to c.requires.known c.requires.even)
