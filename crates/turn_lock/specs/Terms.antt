-- The words of this crate, passed on from one place to other crates. Declares nothing.
pub use Rattle.turn_lock.specs.Histories.{IsPrefix, are_places, longer, merged, with_place}
pub use Rattle.turn_lock.specs.Passes.{AreOfOneDesk, IsPassOf, Seen, items_at, opening_of, own_items, own_places, own_units, seen_by, seen_of, turn_history, turn_origin, turn_places, turn_units}
