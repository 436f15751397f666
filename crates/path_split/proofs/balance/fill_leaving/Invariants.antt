use Rattle.std.proofs.Common.{◌≡◌, ℕ, ◌+◌, ◌*◌, ◌^◌, ◌<◌, ◌≤◌, get_or, length, take}
use Rattle.path_split.specs.inner.Legs.{leaves, due, leg_sum}
use Rattle.path_split.proofs.balance.fill_leaving.Given as goal

-- the sums over the legs so far
abbrev pub invariant-loop-leg : goal.invariant-loop-leg
invariant-loop-leg l = record {
  size : length l.sums ≡ length l.fn.sums;
  sums : (x : ℕ) → x < length l.sums → get_or l.sums x 0 ≡ leg_sum (leaves x) (take l.leg-index l.legs) + due l.fn.at.0 l.need x;
  small : (x : ℕ) → get_or l.sums x 0 ≤ (l.leg-index + 1) * 2 ^ 64;
}
