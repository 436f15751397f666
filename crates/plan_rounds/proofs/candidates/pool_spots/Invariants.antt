use Rattle.plan_rounds.specs.inner.Listing.{AreFirstSpots}
use Rattle.plan_rounds.proofs.candidates.pool_spots.Given as goal

-- the places so far
abbrev pub invariant-loop-i : goal.invariant-loop-i
invariant-loop-i l = AreFirstSpots l.i l.spots
