use Rattle.text_kit.proofs.Lemmas.{each_turn}
use Rattle.sndlib_reader.{specs.Reading.path_line_at, proofs.Online.line_some}
use Rattle.sndlib_reader.proofs.paths.take_line.Goals as goal

pub returns-clause-turn : goal.returns-clause-turn
returns-clause-turn c = each_turn (path_line_at c.args.links.now c.args.demands.now) (line_some c.args.links.now c.args.demands.now) _ _ _ c.in_default.ensures.1 (rw c.in_default.ensures.0 at c.in_ok-line.ensures)

pub returns-clause-shorter : goal.returns-clause-shorter
returns-clause-shorter c more = line_some c.args.links.now c.args.demands.now _ _ _ (rw c.in_default.ensures.0 at c.in_ok-line.ensures)
