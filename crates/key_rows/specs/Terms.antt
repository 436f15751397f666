-- The words of this crate, passed on from one place to other crates. Declares nothing.
pub use Rattle.key_rows.specs.Bases.{IsColumnNamed, IsKeyed, IsRoom, IsShapedBasis}
pub use Rattle.key_rows.specs.FirstRoles.{IsAsked, IsFirstOfRoles, IsFirstRole, LeaveSomething, LimitsNothing}
pub use Rattle.key_rows.specs.KeyRows.{AreWeights, HaveValues, IsOwn, amounts, left_over_rows, less_rows, times_taken, weighted}
pub use Rattle.key_rows.specs.KeyTests.{HaveColumnProducts, IsKeyRow, IsWideSpread, IsWideTest, product_over}
pub use Rattle.key_rows.specs.Names.{HasKey, IsNameWithin, IsShortPath, column_name, demand_in, gain_in, key_dual, key_links, key_name, left_uses, links_in, own_entry, owner_in, path_uses, uses}
