-- The words of this crate's contracts from other crates, passed on from one place to crates above. Declares nothing.
pub use Rattle.tree_boxes.specs.Finds.{is_split}
pub use Rattle.tree_boxes.specs.Terms.{Closed, Empty, Node, Proof, Spent, Split, Stuck}
pub use Rattle.line_check.specs.Inequalities.{line_of_cut}
pub use Rattle.line_check.specs.Lines.{IsMadeFrom}
pub use Rattle.line_check.specs.Testing.{names_by}
pub use Rattle.tree_check.specs.Boxes.{whole_box}
pub use Rattle.tree_check.specs.Proofs.{HoldsAtNode, HoldsNode, IsAcceptedProof, IsEvidenceAt, names_in_proof}
pub use Rattle.tree_check.specs.Terms.{Inequality}
pub use Rattle.tree_check.specs.Trees.{IsWhole, TreeBox, boxes_left, sides_of}
pub use Rattle.tree_check.specs.declared.proof.Verdict.TheVariants.{Above, Cheapest}
