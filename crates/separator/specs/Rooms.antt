-- capacities with room over others
use Rattle.std.specs.Prelude.{◌≡◌, ℕ, ◌*◌, ◌<◌, ◌≤◌, IfSome, length, slice_index}
use Rattle.plan_terms.specs.Terms.{Caps}
use Rattle.separator.specs.declared.roomy_sets.RoomySets.{RoomySets}

-- as many capacities, each at least as great
pub record IsRoomOver (caps roomy : Caps) : Type 0 where
  pub count : length roomy.nums ≡ length caps.nums
  pub scale : 0 < roomy.scale
  pub at_least : (e : ℕ) → e < length caps.nums → slice_index caps.nums e * roomy.scale ≤ slice_index roomy.nums e * caps.scale

-- where capacities come with the sets, they have room over these
abbrev pub HasRoomOver : Caps → RoomySets → Type 0
HasRoomOver caps sets = IfSome sets.room (IsRoomOver caps)
