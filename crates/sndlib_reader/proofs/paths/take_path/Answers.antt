use Rattle.text_kit.proofs.Lemmas.{each_turn}
use Rattle.sndlib_reader.{specs.Reading.native_path_at, proofs.Online.path_some}
use Rattle.sndlib_reader.proofs.paths.take_path.Goals as goal

pub returns-clause-turn : goal.returns-clause-turn
returns-clause-turn c = each_turn (native_path_at c.args.links.now) (path_some c.args.links.now) _ _ _ c.in_default.ensures.1 (rw c.in_default.ensures.0 at c.in_ok-path.ensures)

pub returns-clause-shorter : goal.returns-clause-shorter
returns-clause-shorter c more = path_some c.args.links.now _ _ _ (rw c.in_default.ensures.0 at c.in_ok-path.ensures)
