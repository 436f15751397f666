-- The lemmas that other crates cite, passed on from one place. Declares nothing.
pub use Rattle.key_law.proofs.Amounts.{kept_value_low, kept_value_nonneg, key_part_low, key_value_low, some_limit}
pub use Rattle.key_law.proofs.Change.{new_difference}
pub use Rattle.key_law.proofs.Ends.{kept_optimum, kept_start}
pub use Rattle.key_law.proofs.Exchange.{different, exchanged, key_at, swap_first, swap_other, swap_second}
pub use Rattle.key_law.proofs.Firsts.{comes_first}
pub use Rattle.key_law.proofs.Kept.{alone_key_dot, cost_product, kept_row, key_row, key_row_product, prices_row, row_product}
pub use Rattle.key_law.proofs.Leaving.{exchanged_pick, exchanged_prices, exchanged_product, key_turned_product}
pub use Rattle.key_law.proofs.Owned.{free_difference, owned_difference}
pub use Rattle.key_law.proofs.Roles.{demand_rows, role_den, role_tableau, some_key_rows}
pub use Rattle.key_law.proofs.Short.{short_no_later}
pub use Rattle.key_law.proofs.Spread.{is_spread}
pub use Rattle.key_law.proofs.Steps.{key_falls, key_reached}
pub use Rattle.key_law.proofs.Turns.{block_turned, key_turned, new_key, old_key, some_pivot}
pub use Rattle.key_law.proofs.Wide.{wide_block_common, wide_cost, wide_demand, wide_kept_product, wide_key_number, wide_key_product, wide_key_row, wide_turned, wide_turned_prices}
