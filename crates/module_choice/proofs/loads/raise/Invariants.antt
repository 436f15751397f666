use Rattle.std.proofs.Common.{◌≡◌, ◌≤◌, ◌<◌, ℕ, get_or, max}
use Rattle.module_choice.proofs.loads.raise.Given as goal

-- the peaks so far have been raised, the others are as they were
abbrev pub invariant-loop-e : goal.invariant-loop-e
invariant-loop-e l = record {
  raised : (e : ℕ) → e < l.e → get_or l.peaks e 0 ≡ max (get_or l.initial.peaks e 0) (get_or l.loads e 0);
  kept : (e : ℕ) → l.e ≤ e → get_or l.peaks e 0 ≡ get_or l.initial.peaks e 0;
}
