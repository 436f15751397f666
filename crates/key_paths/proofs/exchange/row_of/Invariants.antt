use Rattle.std.proofs.Common.{ℕ, ◌<◌}
use Rattle.key_rows.specs.Terms.{IsOwn}
use Rattle.key_paths.proofs.exchange.row_of.Given as goal

-- none of the rows so far is one of the demand
abbrev pub invariant-loop-i : goal.invariant-loop-i
invariant-loop-i l = (i : ℕ) → i < l.i → IsOwn l.owners l.demand i → ⊥
