use Rattle.table_maker.specs.inner.Finding.{AreFound, IsSameSearch}
use Rattle.table_maker.proofs.boundaries.Sets.push_boundary.Given as goal

-- the cuts so far are cuts of this case
abbrev pub invariant-loop-s : goal.invariant-loop-s
invariant-loop-s l = record {
  found : AreFound l.self;
  same : IsSameSearch l.fn.self l.self;
}
