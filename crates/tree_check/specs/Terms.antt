-- The words of this crate, passed on from one place to other crates. Declares nothing.
pub use Rattle.line_check.specs.Inequalities.{module_number}
pub use Rattle.line_check.specs.declared.inequality.Inequality.{Inequality}
pub use Rattle.line_check.specs.declared.line.Line.TheVariants.{Divided, Table}
pub use Rattle.line_check.specs.declared.line.Line.{Line}
pub use Rattle.line_check.specs.declared.line.TableKind.TheVariants.{Failing, Plain}
pub use Rattle.line_check.specs.declared.line.TableKind.{TableKind}
pub use Rattle.line_check.specs.declared.tested_lines.Tested.{Tested}
pub use Rattle.tree_check.specs.BoxValues.{HasBoxValue, IsBoxCertificate, IsBoxValue, IsEmptiedBy, all_gains, all_losses, asked_right, certain_setup, certain_setups, given_free, installs_always, module_charge, module_costs, module_gain, module_loss, most_along, value_gains, value_losses}
pub use Rattle.tree_check.specs.Boxes.{AreInBox, IsFixedBox, IsFixedSpan, IsInSpan, IsSplitOf, any_count, beyond, least_counts, lower_side, span_at, spans_of, up_to, upper_side, whole_box}
pub use Rattle.tree_check.specs.Laws.{BoxValueHolds, CheapestHolds, EmptiedHasNone, LeavesCover, OpenLeavesHold}
pub use Rattle.tree_check.specs.Proofs.{AnswersProof, EmptiesBox, HasOpenValue, HoldAllNodes, HoldsAtNode, HoldsNode, IsAcceptedProof, IsEvidenceAt, IsLeastValue, IsOpenAt, VerdictFollows, names_in_proof}
pub use Rattle.tree_check.specs.Testing.{HasValueIn, names_in}
pub use Rattle.tree_check.specs.Trees.{IsNodeOf, IsWhole, TreeBox, boxes_left, sides_of}
