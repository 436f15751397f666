-- a history that a separator writes alone
use Rattle.std.specs.Prelude.{◌≡◌, ℕ, ◌≤◌, ◌⊎◌, Bool, true, false, List, [], All, Contains, length, map}
use Rattle.plan_terms.specs.Terms.{Entry, CutLine, Case}
use Rattle.module_prices.specs.declared.cheapest.UnitPair.{UnitPair}
use Rattle.cut_pool.specs.Terms.{cut_of_line, cuts_of}
use Rattle.plan_law.specs.WorkedLists.{IsBeginning, IsWorkedList, Round}
use Rattle.turn_lock.specs.Passes.{Seen}
use Rattle.separator.specs.Separators.{IsCutEntry}
use Rattle.plan_rounds.{specs.WorkedRounds.IsWorkedPool, specs.declared.rounds.Turn.Turn, specs.declared.rounds.Turn.TheVariants.{Further, Last}}

-- all entries are the separator's own, and are pooled cuts
pub record IsAlone (seen : Seen Entry) : Type 0 where
  pub same : seen.history ≡ seen.own
  pub pooled : All IsCutEntry seen.history

-- the list has grown by opening cuts; if the separator is alone, it has pooled them
pub record PoolsOpening (old new : Seen Entry) (lines lines_now : List CutLine) : Type 0 where
  pub grows : length lines ≤ length lines_now
  pub pools : IsAlone new → length lines_now ≤ 4000 → cuts_of old.history ≡ map cut_of_line lines → cuts_of new.history ≡ map cut_of_line lines_now

-- each cut of the first list is one of the second
abbrev pub Within : List CutLine → List CutLine → Type 0
Within xs ys = (c : CutLine) → Contains xs c → Contains ys c

-- as many cuts, and each cut of either list is one of the other
pub record HasSameCuts (lines made : List CutLine) : Type 0 where
  pub count : length lines ≡ length made
  pub to : Within lines made
  pub back : Within made lines

-- a worked list of no snapshot, whose cuts are those of a pool; it has the cuts of the given list, or the pool is full
pub record IsPoolOfList (p : Case) (pairs : List UnitPair) (pool : List (ℕ × List ℕ)) (lines : List CutLine) : Type 0 where
  pub rounds : List Round
  pub made : List CutLine
  pub list : IsWorkedList p pairs [] rounds made
  pub pooled : map cut_of_line made ≡ pool
  pub same : HasSameCuts lines made ⊎ (length pool ≡ 4096)

-- what the pool is after a turn: that of the list after a further turn, and a worked pool after the last one
abbrev pub IsPoolAfterTurn : Case → List UnitPair → List Entry → List CutLine → Turn → Type 0
IsPoolAfterTurn p pairs h lines (Further best) = ∥ IsPoolOfList p pairs (cuts_of h) lines ∥₁
IsPoolAfterTurn p pairs h lines (Last best quality) = ∥ IsWorkedPool p h ∥₁

-- what a turn leaves in the pool, where the separator is alone and the pool was that of the list
abbrev pub PoolsTurn : Case → List UnitPair → ℕ → (old new : Seen Entry) → (lines lines_now : List CutLine) → Turn → Type 0
PoolsTurn p pairs most old new lines lines_now turn =
    IsAlone new → most ≡ 4096 → ∥ IsPoolOfList p pairs (cuts_of old.history) lines ∥₁ → IsPoolAfterTurn p pairs new.history lines_now turn

-- the pool is that of the list, or at least a worked one
abbrev pub IsPoolAsFar : Case → List UnitPair → List Entry → List CutLine → Bool → Type 0
IsPoolAsFar p pairs h lines true = ∥ IsPoolOfList p pairs (cuts_of h) lines ∥₁
IsPoolAsFar p pairs h lines false = ∥ IsWorkedPool p h ∥₁

-- what a round, or several, leave in the pool, where the separator is alone and the pool was that of the list
abbrev pub PoolsAsFar : Case → List UnitPair → ℕ → (old new : Seen Entry) → (lines lines_now : List CutLine) → Bool → Type 0
PoolsAsFar p pairs most old new lines lines_now far =
    IsAlone new → most ≡ 4096 → ∥ IsPoolOfList p pairs (cuts_of old.history) lines ∥₁ → IsPoolAsFar p pairs new.history lines_now far

-- what all turns leave in the pool, where the separator is alone and the pool was that of the opening cuts
abbrev pub PoolsRounds : Case → ℕ → (old new : Seen Entry) → List CutLine → Type 0
PoolsRounds p most old new lines = IsAlone new → most ≡ 4096 → IsBeginning p [] lines → cuts_of old.history ≡ map cut_of_line lines
    → ∥ IsWorkedPool p new.history ∥₁
