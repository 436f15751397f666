use Rattle.std.proofs.Common.{◌≡◌, length}
use Rattle.master_law.specs.Terms.{master_slack}
use Rattle.simplex_core.specs.Terms.{AtEach}
use Rattle.master_bound.proofs.bound.slack_names.Given as goal

-- the names so far
abbrev pub invariant-loop-row : goal.invariant-loop-row
invariant-loop-row l = (length l.names ≡ l.row) × AtEach (λ i name. name ≡ master_slack i) l.names
