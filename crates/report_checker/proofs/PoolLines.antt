-- the lines of a pool so far, and the next one
use Rattle.std.proofs.Common.{ℕ, ◌≡◌, ◌+◌, ◌<◌, List, [], ◌∷◌, Some, length, get_or, arith, slice_get}
use Rattle.net_core.proofs.Library.{slice_get-get_or}
use Rattle.plan_terms.specs.Terms.{CutLine, Case, graph_in, AreKept}
use Rattle.plan_checker.{specs.Terms.HoldsAt, proofs.Places.{each_read, holds_read, none_read}}
use Rattle.report_checker.specs.Pools.{IsBadCut}

-- a list that has a place has an item for it
pub some_item : {X : Type 0} (xs : List X) (k : ℕ) → k < length xs → X
some_item [] k lt = absurd (omega (arith, lt))
some_item (x ∷ xs) k lt = x

module _ (p : Case) (pool : List CutLine) (k : ℕ) (inside : k < length pool) where
  abbrev line : CutLine
  line = get_or pool k (some_item pool k inside)

  at : slice_get pool k ≡ Some line
  at = slice_get-get_or pool k (some_item pool k inside) inside

  pub bad_here : ((l : CutLine) → slice_get pool k ≡ Some l → IsBadCut p pool k l) → HoldsAt pool k (IsBadCut p pool k)
  bad_here bad = holds_read pool (λ j. IsBadCut p pool j) k (some_item pool k inside) inside (bad line at)

  pub none_bad_more : ((l : CutLine) → slice_get pool k ≡ Some l → IsBadCut p pool k l → ⊥) → ((j : ℕ) → j < k → HoldsAt pool j (IsBadCut p pool j) → ⊥) → (j : ℕ) → j < k + 1 → HoldsAt pool j (IsBadCut p pool j) → ⊥
  none_bad_more fine none = none_read pool (λ j. IsBadCut p pool j) k (some_item pool k inside) inside none (fine line at)

  pub kept_more : ((l : CutLine) → slice_get pool k ≡ Some l → AreKept (graph_in p l.state.0) l.lengths) → ((j : ℕ) → j < k → HoldsAt pool j (λ l. AreKept (graph_in p l.state.0) l.lengths))
      → (j : ℕ) → j < k + 1 → HoldsAt pool j (λ l. AreKept (graph_in p l.state.0) l.lengths)
  kept_more kept each = each_read pool (λ _ (l : CutLine). AreKept (graph_in p l.state.0) l.lengths) k (some_item pool k inside) inside each (kept line at)
