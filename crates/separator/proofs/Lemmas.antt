-- The lemmas that other crates cite, passed on from one place. Declares nothing.
pub use Rattle.separator.proofs.Admitting.{admit_pools, admit_spot}
pub use Rattle.separator.proofs.Answering.{answers_more, cut_named, cuts_at_most, cuts_more, cuts_none, cuts_weaker, line_is, no_cuts, violated_answer}
pub use Rattle.separator.proofs.Pooling.{cuts_both}
pub use Rattle.separator.proofs.Seeing.{get_more, part_few, sees_both, sees_none, spot_later}
pub use Rattle.separator.proofs.SomeAnswers.{among_none, answered_later, answered_wider, cut_more, cuts_are_some, cuts_unanswered, get_both, others_more, others_none, ring_answers, until_cut_are_of_round}
