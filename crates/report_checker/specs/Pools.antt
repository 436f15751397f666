-- findings on the pool of a report
use Rattle.std.specs.Prelude.{◌≡◌, ◌≢◌, ℕ, ◌<◌, ◌⊎◌, List, length}
use Rattle.plan_terms.specs.Terms.{Entry, CutLine, Case, graph_in, AreKept}
use Rattle.cut_pool.specs.Terms.{cut_of_line, cuts_of}
use Rattle.plan_checker.{specs.Terms.{HoldsAt, IsLeastPlace, HasStaleRight}, specs.declared.finding.Finding.Finding, specs.declared.finding.Finding.TheVariants.{BadCut, PoolCount, PoolDiffers}}

-- the pool has another number of lines than the journal has cuts
abbrev pub HoldsPoolCount : List Entry → List CutLine → Finding → Type 0
HoldsPoolCount entries pool (PoolCount a b) = (length pool ≡ a) × (length (cuts_of entries) ≡ b) × (a ≢ b)
HoldsPoolCount entries pool _ = ⊥

-- the state of line k doesn't keep its lengths, or its cut is already that of an earlier line
abbrev pub IsBadCut : Case → List CutLine → ℕ → CutLine → Type 0
IsBadCut p pool k line =
    (AreKept (graph_in p line.state.0) line.lengths → ⊥)
    ⊎ ((j : ℕ) × (j < k) × HoldsAt pool j (λ l. cut_of_line l ≡ cut_of_line line))

-- the first such line
abbrev pub HoldsBadCut : Case → List CutLine → Finding → Type 0
HoldsBadCut p pool (BadCut i) = IsLeastPlace (λ k. HoldsAt pool k (IsBadCut p pool k)) i
HoldsBadCut p pool _ = ⊥

-- the first such line
abbrev pub HoldsPoolDiffers : Case → List CutLine → Finding → Type 0
HoldsPoolDiffers p pool (PoolDiffers i a b) =
    HoldsAt pool i (λ l. HasStaleRight p l a b) × ((j x y : ℕ) → j < i → HoldsAt pool j (λ l. HasStaleRight p l x y) → ⊥)
HoldsPoolDiffers p pool _ = ⊥
