-- The words of this crate, passed on from one place to other crates. Declares nothing.
pub use Rattle.key_law.specs.Kept.{IsKept}
pub use Rattle.key_law.specs.KeyRows.{AreKeyRows, HaveWeights, cost, full_kept, full_key, full_prices, key_dot, key_nums, key_times, role_nums, role_value}
pub use Rattle.key_law.specs.Keys.{key, key_part, left_column, swap}
pub use Rattle.key_law.specs.Ties.{ComesFirst, IsRoleFirst, IsRoleRow, IsTieFirst}
pub use Rattle.key_law.specs.Turns.{IsBlockTurned, IsExchanged, IsLoneKey}
