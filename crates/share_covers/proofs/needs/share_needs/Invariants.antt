use Rattle.std.proofs.Common.{◌≡◌, ◌<◌, ℕ, Some, get_or, length, slice_get}
use Rattle.plan_terms.specs.Terms.{Link}
use Rattle.share_covers.specs.ShareCovers.{IsNeedOfLink}
use Rattle.share_covers.proofs.needs.share_needs.Given as goal

-- what each link so far needs
abbrev pub invariant-loop-e : goal.invariant-loop-e
invariant-loop-e l = record {
  count : length l.needs ≡ l.e;
  each : (i : ℕ) (k : Link) → i < l.e → slice_get l.links i ≡ Some k → IsNeedOfLink k.modules l.share.scale (get_or l.units i 0) (get_or l.needs i 0);
}
