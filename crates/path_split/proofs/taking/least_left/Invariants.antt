use Rattle.std.proofs.Common.{◌≡◌, ◌≤◌, ◌⊎◌, All, Any, get_or, take}
use Rattle.path_split.proofs.taking.least_left.Given as goal

-- the least of the amount and of what is left at the places so far
abbrev pub invariant-loop-k : goal.invariant-loop-k
invariant-loop-k l = record {
  most : l.least ≤ l.most;
  left : All (λ k. l.least ≤ get_or l.lefts k 0) (take l.k-index l.trail);
  reached : (l.least ≡ l.most) ⊎ Any (λ k. l.least ≡ get_or l.lefts k 0) l.trail;
}
