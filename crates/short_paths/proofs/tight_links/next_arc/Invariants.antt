use Rattle.short_paths.proofs.Choosing.{IsBest}
use Rattle.short_paths.proofs.tight_links.next_arc.Given as goal

abbrev pub invariant-loop-arc : goal.invariant-loop-arc
invariant-loop-arc l = IsBest l.arc-items l.lengths l.back l.here l.arc-index l.best
