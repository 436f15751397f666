-- The rule of the table under a desk.
use Rattle.std.specs.Prelude.{◌≡◌, ◌≢◌, ℕ, ◌+◌, ◌%◌, ◌^◌, ◌≤◌, List, [], ◌∷◌, length, sum_by, count_by, cond, nat_lt, nat_le, Bool, ◌==◌, ◌&&◌, ◌⊎◌, true, Some, Option}
use Rattle.atomic_table.specs.Table.{State}
use Rattle.turn_lock.{specs.declared.rule.View.View, specs.declared.rule.Stage.Stage, specs.declared.rule.Stage.TheVariants.{Idle, Waiting, Holding, Joined}, specs.Histories.{IsPrefix, longer, are_places}}
use mathlib.Core.Option.{some, none}
use lib.ListN.{get_elem?}

-- 1 where the test holds, and else 0
abbrev pub one_where : Bool → ℕ
one_where test = cond test 1 0

-- 1 where k is at least low and below high
abbrev pub one_within : ℕ → ℕ → ℕ → ℕ
one_within low high k = one_where (nat_le low k && nat_lt k high)

-- how often p is among the places
abbrev pub times_at : ℕ → List ℕ → ℕ
times_at p ps = count_by (λ q. q == p) ps

module _ {I : Type 0} where
  -- how many tickets a pass has
  abbrev pub tickets_of : Stage I → ℕ
  tickets_of Idle = 0
  tickets_of (Waiting t) = 1
  tickets_of (Holding t) = 1
  tickets_of (Joined ys) = 0

  -- 1 where it has the ticket k
  abbrev pub ticket_at : ℕ → Stage I → ℕ
  ticket_at k Idle = 0
  ticket_at k (Waiting t) = one_where (t == k)
  ticket_at k (Holding t) = one_where (t == k)
  ticket_at k (Joined ys) = 0

  -- 1 where the value is in its hand
  abbrev pub turns_of : Stage I → ℕ
  turns_of Idle = 0
  turns_of (Waiting t) = 0
  turns_of (Holding t) = 1
  turns_of (Joined ys) = 0

  -- how far the lists reach that a pass has seen
  abbrev pub reach : List I → Stage I → ℕ
  reach seen Idle = length seen
  reach seen (Waiting t) = length seen
  reach seen (Holding t) = length seen
  reach seen (Joined ys) = length (longer seen ys)

  module _ (log : List I) (served : ℕ) where
    -- a pass in its turn has seen the whole history, and its ticket is served
    abbrev pub KnowsStage : List I → Stage I → Type 0
    KnowsStage seen Idle = Unit {0}
    KnowsStage seen (Waiting t) = Unit {0}
    KnowsStage seen (Holding t) = (t ≡ served) × (seen ≡ log)
    KnowsStage seen (Joined ys) = IsPrefix ys log

    pub record Knows {O : Type 0} (origin : O) (v : View I O) : Type 0 where
      pub begins : IsPrefix v.seen log
      pub stage : KnowsStage v.seen v.stage
      pub placed : are_places 0 (reach v.seen v.stage) v.places ≡ true
      pub few : tickets_of v.stage ≤ v.units
      pub spent : v.units ≡ 0 → v.places ≡ []
      pub made : v.units ≢ 0 → v.origin ≡ Some origin

module _ {T I O : Type 0} (history : T → List I) (origin_of_value : T → O) (origin : O) where
  -- no turn is out and the value is at home, or one turn is out and the slot is with it
  abbrev pub HasSlot : List I → List (mathlib.Core.Option.Option (Option T)) → List (View I O) → Type 0
  HasSlot log homes views =
      ((sum_by (λ v. turns_of v.stage) views ≡ 0) × ((x : T) × (homes ≡ some (Some x) ∷ []) × (history x ≡ log) × (origin_of_value x ≡ origin)))
      ⊎ ((sum_by (λ v. turns_of v.stage) views ≡ 1) × (homes ≡ none ∷ []))

  pub record Kept (s : State (Option T) (View I O)) : Type 0 where
    pub log : List I
    pub drawn : ℕ
    pub served : ℕ
    pub words : s.words ≡ drawn % 2 ^ 64 ∷ served % 2 ^ 64 ∷ length log % 2 ^ 64 ∷ []
    pub units : sum_by (λ v. v.units) s.views ≡ 2 ^ 32
    pub tickets : sum_by (λ v. tickets_of v.stage) s.views + served ≡ drawn
    -- each ticket that was drawn and is not done is one pass's
    pub each_ticket : (k : ℕ) → sum_by (λ v. ticket_at k v.stage) s.views ≡ one_within served drawn k
    -- each place of the history is that of one pass's own item
    pub each_place : (p : ℕ) → sum_by (λ v. times_at p v.places) s.views ≡ one_within 0 (length log) p
    pub each_view : (j : ℕ) (v : View I O) → get_elem? s.views j ≡ some v → Knows log served origin v
    pub slot : HasSlot log s.homes s.views

-- the pass that a new desk gives
abbrev pub first_view : {I O : Type 0} → O → View I O
first_view origin = record { stage = Idle; seen = []; places = []; units = 2 ^ 32; origin = Some origin }
