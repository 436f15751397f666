-- what trimmed counts are good for
use Rattle.std.specs.Prelude.{ℕ, ◌<◌, List, All}
use Rattle.plan_terms.specs.Terms.{Case, IsAble}
use Rattle.able_counts.{specs.declared.stop.Stop.Stop, specs.declared.stop.Stop.TheVariants.{Cut, Wide}}
use Rattle.trim_plan.{specs.declared.trimmed_plan.Block.Block, specs.Trimmed.{IsTrimmedBy, module_count, one_less}}

-- the block is a cut
abbrev pub IsCutStop : Stop → Type 0
IsCutStop (Cut line) = Unit {0}
IsCutStop (Wide evidence) = ⊥

-- where all blocks are cuts, trimmed counts less one module can't carry the demands
abbrev pub TrimmedAreLeast : Type 0
TrimmedAreLeast = (p : Case) (counts : List (List ℕ)) (blocks : List Block) (e m : ℕ)
    → IsTrimmedBy p counts blocks
    → All (λ b. IsCutStop b.why) blocks
    → 0 < module_count counts e m
    → IsAble p (one_less counts e m)
    → ⊥
