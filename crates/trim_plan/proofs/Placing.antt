-- blocks, one module and one link after another
use Rattle.std.proofs.Common.{◌≡◌, ◌∙◌, ℕ, ◌+◌, ◌≤◌, ◌<◌, List, [], ◌∷◌, ◌++◌, length, slice_index, take, sym, ap, append_assoc, take_all}
use Rattle.net_core.proofs.Library.{map-append}
use Rattle.trim_plan.{specs.declared.trimmed_plan.Block.Block, specs.Trimmed.modules_in_use, specs.inner.Sparing.block_places, proofs.Lowering.{module_added, module_skipped}}

-- a block after others
pub place_added : (blocks old : List Block) (b : Block) (e m : ℕ) (counts : List ℕ) → m < length counts → 0 < slice_index counts m → ◌≡◌ {A = ℕ × ℕ} (b.link.0, b.module) (e, m)
    → block_places blocks ≡ block_places old ++ modules_in_use e 0 (take m counts) → block_places (blocks ++ b ∷ []) ≡ block_places old ++ modules_in_use e 0 (take (m + 1) counts)
place_added blocks old b e m counts lt some at so_far =
    map-append (λ (x : Block). (x.link.0, x.module)) blocks (b ∷ [])
    ∙ ap (λ ps. ps ++ (b.link.0, b.module) ∷ []) so_far
    ∙ ap (λ q. (block_places old ++ modules_in_use e 0 (take m counts)) ++ q ∷ []) at
    ∙ append_assoc (block_places old) (modules_in_use e 0 (take m counts)) ((e, m) ∷ [])
    ∙ ap (λ ps. block_places old ++ ps) (sym (module_added e counts m lt some))

-- a module of no count has none
pub place_skipped : (blocks old : List Block) (e m : ℕ) (counts : List ℕ) → m < length counts → slice_index counts m ≡ 0
    → block_places blocks ≡ block_places old ++ modules_in_use e 0 (take m counts) → block_places blocks ≡ block_places old ++ modules_in_use e 0 (take (m + 1) counts)
place_skipped blocks old e m counts lt none so_far = so_far ∙ ap (λ ps. block_places old ++ ps) (sym (module_skipped e counts m lt none))

-- all modules of a link
pub places_all : (blocks old : List Block) (e m : ℕ) (counts : List ℕ) → length counts ≤ m
    → block_places blocks ≡ block_places old ++ modules_in_use e 0 (take m counts) → block_places blocks ≡ block_places old ++ modules_in_use e 0 counts
places_all blocks old e m counts all so_far = so_far ∙ ap (λ cs. block_places old ++ modules_in_use e 0 cs) (take_all m counts all)
