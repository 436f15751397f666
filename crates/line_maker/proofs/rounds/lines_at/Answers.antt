use Rattle.line_maker.proofs.Making.{candidates_permuted}
use Rattle.line_maker.proofs.rounds.lines_at.Goals as goal

pub lines_of-requires : goal.lines_of-requires
lines_of-requires c =
    candidates_permuted c.args.tested.now c.in_ok-found.found c.in_ok-found-2.found c.in_ok-found-2.ensures c.in_ok-found.ensures
