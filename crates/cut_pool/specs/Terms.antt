-- The words of this crate, passed on from one place to other crates. Declares nothing.
pub use Rattle.cut_pool.specs.Boards.{AnswersAdmit, AnswersEdit, GrowsBy, IsSameBoard, IsSnapshotOf, opening_case, origin_of, spare_of}
pub use Rattle.cut_pool.specs.Histories.{Dated, IsBoardAfter, IsLegalAfter, IsLegalHistory, IsPoolAfter, case_left, cut_of_line, cuts_of, demands_at, demands_left, left_by, left_by_entry, pooled_by, version_at, version_left}
pub use Rattle.cut_pool.specs.Pools.{line_of_pooled}
