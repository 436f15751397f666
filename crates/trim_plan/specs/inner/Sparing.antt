-- how modules are taken off counts, and the places of the blocks of those that are left
use Rattle.std.specs.Prelude.{ℕ, ◌<◌, List, map, sum, sum_by}
use Rattle.trim_plan.{specs.Trimmed.AreAtMost, specs.declared.trimmed_plan.Block.Block}

-- the link and the module of each block
abbrev pub block_places : List Block → List (ℕ × ℕ)
block_places blocks = map (λ b. (b.link.0, b.module)) blocks

-- the number of all modules
abbrev pub all_modules : List (List ℕ) → ℕ
all_modules counts = sum_by sum counts

-- no count is greater, and there are fewer modules in all
pub record LowersCounts (old new : List (List ℕ)) : Type 0 where
  pub fewer : AreAtMost new old
  pub less : all_modules new < all_modules old
