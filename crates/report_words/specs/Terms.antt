-- The words of this crate, passed on from one place to other crates. Declares nothing.
pub use Rattle.report_words.specs.Contexts.{known_in}
pub use Rattle.report_words.specs.ReportChoices.{Branches, branch_at, branch_or, branch_within}
unfoldable pub use Rattle.report_words.specs.ReportChoices.{numbers_at}
unfoldable pub use Rattle.report_words.specs.ReportFields.{field_at}
pub use Rattle.report_words.specs.ReportKinds.{report_kind_word}
pub use Rattle.report_words.specs.ReportWords.{amount_at, as_node, closing_at, demand_at, demand_of, demand_within, has_room, keyword_at, keyword_within, link_at, link_of, money_at, name_at, new_demand, node_at, node_of_word, number_at, opening_at, opening_within, place_named, this_name_at, this_number_at, unknown_name, where_room, whole_within}
