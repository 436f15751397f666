-- The lemmas that other crates cite, passed on from one place. Declares nothing.
pub use Rattle.simplex_law.proofs.Arithmetic.{distribute_left, distribute_minus, le_cancel, le_times, lt_cancel, minus_left, moved_out, positive_cancel, swap_last, times_less, times_nonneg, times_nonpositive, weaken}
pub use Rattle.simplex_law.proofs.Bounds.{same_pick, sizes}
pub use Rattle.simplex_law.proofs.Duality.{priced}
pub use Rattle.simplex_law.proofs.Limited.{limited}
pub use Rattle.simplex_law.proofs.LowestTerms.{some_lowest}
pub use Rattle.simplex_law.proofs.NoLater.{first_scaled, gone, over, pick_again, second_scaled}
pub use Rattle.simplex_law.proofs.Numbers.{AreNumberedDuals, left_above, left_falls, left_over_falls}
pub use Rattle.simplex_law.proofs.Optimal.{greatest, none_gains, optimum}
pub use Rattle.simplex_law.proofs.Order.{Rises, crossed, lex_at, lex_more, lex_none, lex_rest, lex_sum}
pub use Rattle.simplex_law.proofs.Reached.{slack_is, start_reached, started, turn_reached, value_nonneg}
pub use Rattle.simplex_law.proofs.Rows.{dot-combined, multiple, reduced_row}
pub use Rattle.simplex_law.proofs.Sparse.{entry_dot, sparse}
pub use Rattle.simplex_law.proofs.Sums.{dot-none, dot-none-column, dot-of-unit, dot-same, dot-times, dot-unit, sum-le, sum-minus, sum-none, sum-one, sum-plus, sum-put, sum-same, sum-split, sum-swapped, sum-times, sum-unit, unit-other, unit-same}
pub use Rattle.simplex_law.proofs.Tableaux.{IsTableau}
pub use Rattle.simplex_law.proofs.Turned.{first_row, objective_row, other_row, rises, rises_to, turned, turned_raw}
pub use Rattle.simplex_law.proofs.Unique.{dot_scaled, row_unique, same_tableau, valued_scaled, weights}
pub use Rattle.simplex_law.proofs.Values.{part_of_sum, row_value_low, row_value_nonneg, sum_grows, value_low}
pub use Rattle.simplex_law.proofs.Widths.{inverse_row, large_part, last_row, wide_common, wide_duals, wide_multiple, wide_price, wide_product, wide_row, wide_sum, wide_value}
