-- The lemmas of other crates that crates above cite, passed on from one place. Declares nothing.
pub use Rattle.plan_swaps.proofs.Lemmas.{routed_with}
pub use Rattle.plan_swaps.proofs.Swapped.{plan_carries, routing_of_kept}
pub use Rattle.line_maker.proofs.NamesKept.{names_are_kept, names_below}
pub use Rattle.line_maker.proofs.Placed.{cuts_append}
pub use Rattle.route_law.proofs.Lemmas.{below_term}
