-- what a turn does in which a cut is put into the pool
use Rattle.std.specs.Prelude.{◌≡◌, ℕ, ◌⊎◌, List, [], ◌∷◌}
use Rattle.plan_terms.specs.Terms.{Entry}
use Rattle.turn_lock.specs.Passes.{Seen}
use Rattle.separator.specs.Separators.{cuts_since}

-- nothing was pooled since, or this cut
abbrev pub PoolsAtMost : ℕ × List ℕ → Seen Entry → Seen Entry → Type 0
PoolsAtMost cut old new = (cuts_since old new ≡ []) ⊎ (cuts_since old new ≡ cut ∷ [])
