use Rattle.std.proofs.Common.{◌≡◌, map, take}
use Rattle.master_law.specs.Terms.{cut_gain}
use Rattle.master_bound.proofs.rating.ratings_of.Given as goal

-- the gains of the cuts so far
abbrev pub invariant-loop-cut : goal.invariant-loop-cut
invariant-loop-cut l = map (λ r. r.gain) l.ratings ≡ map (cut_gain l.links) (take l.cut-index l.cuts)
