use Rattle.std.proofs.Common.{◌≡◌}
use Rattle.table_maker.specs.inner.Finding.{AreFound}
use Rattle.table_maker.proofs.boundaries.set_cuts.Given as goal

-- the cuts so far are cuts of the case
abbrev pub invariant-loop-cut : goal.invariant-loop-cut
invariant-loop-cut l = record {
  found : AreFound l.sets;
  same : (l.sets.instance.now ≡ l.instance) × (l.sets.known.now ≡ l.known);
}
