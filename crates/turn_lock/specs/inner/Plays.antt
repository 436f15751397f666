-- What each step tells the pass that makes it.
use Rattle.std.specs.Prelude.{◌≡◌, ◌≢◌, ℕ, ◌+◌, ◌-◌, ◌/◌, ◌%◌, ◌^◌, List, [], ◌∷◌, ◌++◌, length, ◌⊎◌, true, Some, None, Option}
use Rattle.atomic_table.specs.Table.{Me, rest}
use Rattle.turn_lock.{specs.declared.rule.View.View, specs.declared.rule.Stage.Stage, specs.declared.rule.Stage.TheVariants.{Idle, Waiting, Holding, Joined}, specs.Histories.{IsPrefix, longer, are_places, merged}}

-- the list that a pass which was taken in had seen
abbrev pub also_seen : {I : Type 0} → Stage I → List I
also_seen Idle = []
also_seen (Waiting k) = []
also_seen (Holding k) = []
also_seen (Joined ys) = ys

module _ {I O : Type 0} where
  -- the own items are in the history that the pass has seen
  abbrev pub OwnItemsStand : View I O → Type 0
  OwnItemsStand v = are_places 0 (length v.seen) v.places ≡ true

  -- the pass waits for the ticket whose word is `word`
  abbrev pub Awaits : ℕ → View I O → Type 0
  Awaits word v = (k : ℕ) × (word ≡ k % 2 ^ 64) × (v.stage ≡ Waiting k)

  -- a pass that is split: half of the units, rounded down, go to the second, and all own items stay with the first
  abbrev pub first_half : View I O → View I O
  first_half v = record v { units = v.units - v.units / 2 }

  abbrev pub second_half : View I O → View I O
  second_half v = record { stage = Idle; seen = v.seen; places = []; units = v.units / 2; origin = v.origin }

  -- two passes that are joined: both lists are kept until the look at the count
  abbrev pub joined_view : View I O → View I O → View I O
  joined_view v w = record { stage = Joined w.seen; seen = v.seen; places = merged v.places w.places; units = v.units + w.units; origin = v.origin }

  abbrev pub spent_view : View I O
  spent_view = record { stage = Idle; seen = []; places = []; units = 0; origin = None }

-- a pass, and what is in its hand
abbrev Hand : Type 0 → Type 0 → Type 0 → Type 0
Hand T I O = Me (Option T) (View I O)

module _ {T I O : Type 0} where
  -- a ticket was drawn
  abbrev pub Draws : Hand T I O → ℕ → Hand T I O → Type 0
  Draws m found n = (k : ℕ) × (found ≡ k % 2 ^ 64) × (n.0 ≡ record m.0 { stage = Waiting k }) × (n.1 ≡ m.1)

  -- the value went home
  abbrev pub Serves : Hand T I O → Hand T I O → Type 0
  Serves m n = (n.0 ≡ record m.0 { stage = Idle }) × (n.1 ≡ rest m.1) × OwnItemsStand n.0

  -- after a join: the longer list is kept, and both begin it
  abbrev pub Settles : Hand T I O → Hand T I O → Type 0
  Settles m n = (n.0 ≡ record m.0 { stage = Idle; seen = longer m.0.seen (also_seen m.0.stage) }) × (n.1 ≡ m.1)
      × IsPrefix m.0.seen n.0.seen × IsPrefix (also_seen m.0.stage) n.0.seen × OwnItemsStand n.0

  module _ (history : T → List I) where
    -- the pass has seen the history of the value in its hand, whose last item is its own
    abbrev pub Commits : Hand T I O → Hand T I O → Type 0
    Commits m n = (new : List I) × (n ≡ (record m.0 { seen = new; places = m.0.places ++ length m.0.seen ∷ [] }, m.1))
        × ((x : T) (cs : List (ℕ × Option T)) → m.1 ≡ (0, Some x) ∷ cs → new ≡ history x)

    module _ (origin_of_value : T → O) where
      -- the pass's ticket is served, and the value x came into its hand
      pub record Took (x : T) (old new : View I O) : Type 0 where
        pub view : (k : ℕ) × (new ≡ record old { stage = Holding k; seen = history x })
        pub begins : IsPrefix old.seen (history x)
        pub made : old.origin ≡ Some (origin_of_value x)
        pub placed : OwnItemsStand new

      -- the pass's ticket is served, or nothing changed
      abbrev pub Looks : Hand T I O → ℕ → Hand T I O → Type 0
      Looks m found n = (k : ℕ) → m.0.stage ≡ Waiting k
          → ((found ≡ k % 2 ^ 64) × ((x : T) × Took x m.0 n.0 × (n.1 ≡ (0, Some x) ∷ m.1))) ⊎ ((found ≢ k % 2 ^ 64) × (n ≡ m))
