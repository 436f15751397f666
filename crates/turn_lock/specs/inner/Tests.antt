-- What a pass and a turn keep, as numbers and tests.
use Rattle.std.specs.Prelude.{◌≡◌, ℕ, Bool, true, false, List, [], ◌∷◌, Option, Some, None, ◌==◌, ◌&&◌}
use Rattle.atomic_table.specs.Seated.{TableId}
use Rattle.turn_lock.{specs.declared.rule.Stage.Stage, specs.declared.rule.Stage.TheVariants.{Idle, Waiting, Holding, Joined}}

abbrev pub stage_number : {I : Type 0} → Stage I → ℕ
stage_number Idle = 0
stage_number (Waiting k) = 1
stage_number (Holding k) = 2
stage_number (Joined ys) = 3

abbrev pub is_vacant : {T : Type 0} → Option T → Bool
is_vacant None = true
is_vacant (Some x) = false

-- the slot 0 is in the hand, without the value
abbrev pub has_vacant_slot : {T : Type 0} → List (ℕ × Option T) → Bool
has_vacant_slot [] = false
has_vacant_slot (x ∷ []) = x.0 == 0 && is_vacant x.1
has_vacant_slot (x ∷ y ∷ xs) = false

-- a table of three words and one slot
abbrev pub IsDeskTable : TableId → Type 0
IsDeskTable z = (z.words ≡ 3) × (z.slots ≡ 1)
