-- The words of this crate, with the types of boxes and proofs, passed on from one place to other crates. Declares nothing.
pub use Rattle.plan_swaps.specs.Terms.{IsTestOf, IsWideSomewhere, whole_caps, IsRoutedPlan, Place}
pub use Rattle.tree_boxes.specs.Causes.{HasFreeValue, HasPlanValue, IsUnsettled, lines_of_plan}
pub use Rattle.tree_boxes.specs.Finds.{AreCheaperCounts, AreLow, HaveCounts, IsFoundAt, IsLeafTwig, IsOpenBox, IsSearchBox, IsSettledNode, IsTwigOf, is_split, twig_node}
pub use Rattle.tree_boxes.specs.Searches.{Extends, HasLearned, IsAim, IsKnown, IsOwnCert, IsSearch, IsSoundEntry, aimed, handed_in, most_entries}
pub use Rattle.plan_swaps.specs.Swaps.{IsCheaperPlan}
pub use Rattle.line_maker.specs.Orders.{cuts_among, lines_among, moved_certificate, moved_line, moved_multipliers, moved_node, place_of, source_of}
pub use Rattle.line_maker.specs.declared.entry.Entry.{Entry}
pub use Rattle.tree_check.specs.declared.boxes.Span.{Span}
pub use Rattle.tree_check.specs.declared.proof.BoxCert.{BoxCert}
pub use Rattle.tree_check.specs.declared.proof.Node.{Node}
pub use Rattle.tree_check.specs.declared.proof.Node.TheVariants.{Closed, Empty, Spent, Split, Stuck}
pub use Rattle.tree_check.specs.declared.proof.Proof.{Proof}
pub use Rattle.tree_check.specs.declared.proof.Verdict.{Verdict}
pub use Rattle.line_maker.specs.declared.entry.Entry.TheVariants as entry
