-- The lemmas that other crates cite, passed on from one place. Declares nothing.
pub use Rattle.route_law.proofs.Carrying.{duals_below, flows_carry}
pub use Rattle.route_law.proofs.Divided.{divided_are_wide}
pub use Rattle.route_law.proofs.Kept.{link_prices_are_violated, violated_carries_nothing}
pub use Rattle.route_law.proofs.Lowest.{carried_lowest}
pub use Rattle.route_law.proofs.Meeting.{all_gained, below_term, some_left}
pub use Rattle.route_law.proofs.Multiples.{divided_are_carried, divided_are_violated}
pub use Rattle.route_law.proofs.Packing.{bound_nonneg, no_slack, program_packing, route_packing}
pub use Rattle.route_law.proofs.Pushed.{flows_pass, flows_push, flows_slack}
pub use Rattle.route_law.proofs.Rows.{below-both, beside_after, beside_each, beside_first, sum-pos}
pub use Rattle.route_law.proofs.Slacks.{number_evidence}
pub use Rattle.route_law.proofs.SomePrices.{some_price}
pub use Rattle.route_law.proofs.ZerosAndOnes.{zeros_and_ones_are_priced}
