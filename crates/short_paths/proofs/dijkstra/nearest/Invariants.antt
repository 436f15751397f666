use Rattle.std.proofs.Common.{◌≡◌, ◌<◌, ◌≤◌, ◌^◌, ◌-◌, ℕ, get_or, true, false, length}
use Rattle.short_paths.proofs.dijkstra.nearest.Given as goal

abbrev pub invariant-loop-k : goal.invariant-loop-k
invariant-loop-k l = record {
  low : (j : ℕ) → j < l.k → get_or l.settled j true ≡ false → l.least ≤ get_or l.found j 0;
  some : l.least < 2 ^ 128 - 1 → (l.at < length l.found) × (get_or l.settled l.at true ≡ false) × (get_or l.found l.at 0 ≡ l.least);
  most : l.least ≤ 2 ^ 128 - 1;
}
