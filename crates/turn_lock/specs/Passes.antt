-- What contracts say of desks, passes and turns.
use Rattle.std.{specs.Prelude.{◌≡◌, ℕ, List, Some, Option, drop, take}, specs.List.flat_map}
use Rattle.turn_lock.{specs.declared.chronicle.Chronicle.Ghosts, specs.declared.desk.Desk.Desk, specs.declared.desk.Pass.Pass, specs.declared.desk.Turn.Turn}

-- what has been seen of a history, and the own items in it, in their order
pub record Seen (I : Type 0) : Type 0 where
  pub history : List I
  pub own : List I

-- the items at these places of a history
abbrev pub items_at : {I : Type 0} → List I → List ℕ → List I
items_at history places = flat_map (λ p. take 1 (drop p history)) places

module _ {T I O : Type 0} where
  -- the value that the desk was made with
  abbrev pub opening_of : Desk T I O → T
  opening_of d = d.table.shared.key.value

  -- the history that a turn begins with, the places in it of its own items, its units, and the origin of the desk's values
  abbrev pub turn_history : Turn T I O → List I
  turn_history t = t.seat.me.0.seen

  abbrev pub turn_places : Turn T I O → List ℕ
  turn_places t = t.seat.me.0.places

  abbrev pub turn_units : Turn T I O → ℕ
  turn_units t = t.seat.me.0.units

  abbrev pub turn_origin : Turn T I O → Option O
  turn_origin t = t.seat.me.0.origin

module _ {T I O : Type 0} {g : Ghosts T I O} where
  -- the history that a pass has seen, the places in it of its own items, and its units
  abbrev pub seen_by : Pass T I O g → List I
  seen_by p = p.seat.me.0.seen

  abbrev pub own_places : Pass T I O g → List ℕ
  own_places p = p.seat.me.0.places

  abbrev pub own_units : Pass T I O g → ℕ
  own_units p = p.seat.me.0.units

  -- the pass's own items, in their order
  abbrev pub own_items : Pass T I O g → List I
  own_items p = items_at (seen_by p) (own_places p)

  -- the history that a pass has seen, with its own items
  abbrev pub seen_of : Pass T I O g → Seen I
  seen_of p = record { history = seen_by p; own = own_items p }

  -- the pass is one of the desk's
  abbrev pub IsPassOf : Desk T I O → Pass T I O g → Type 0
  IsPassOf d p = (p.seat.table_id ≡ d.table.shared.table_id) × (p.seat.me.0.origin ≡ Some (g.origin (opening_of d)))

  -- the pass and the turn are of one desk
  abbrev pub AreOfOneDesk : Pass T I O g → Turn T I O → Type 0
  AreOfOneDesk p t = (p.seat.table_id ≡ t.seat.table_id) × (p.seat.me.0.origin ≡ turn_origin t)
