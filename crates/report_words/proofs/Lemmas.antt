-- The lemmas that other crates cite, passed on from one place. Declares nothing.
pub use Rattle.report_words.proofs.BranchLaws.{branches_law, either_form, lawful_branch, lawful_closed, lawful_no_branch}
pub use Rattle.report_words.proofs.Branching.{online_branch}
pub use Rattle.report_words.proofs.FieldLaws.{field_law, field_online}
pub use Rattle.report_words.proofs.ListLaws.{exact_law, few_law, few_rooms, is_length, lawful_placed, length_is, numbered_items, placed_items, rooms_few}
pub use Rattle.report_words.proofs.Lookups.{named_among, named_in}
pub use Rattle.report_words.proofs.Making.{MadeOf, law_made, made_give, made_last, made_law, made_then}
pub use Rattle.report_words.proofs.NumberLaws.{numbers_law}
pub use Rattle.report_words.proofs.WordLaws.{AreApart, amount_law, closing_law, demand_law, demand_within_law, few_so_far, keyword_law, keyword_within_law, link_law, money_law, name_law, new_demand_law, node_law, number_law, opening_law, opening_within_law, place_again, place_takes, room_so_far, room_takes, this_name_law, this_number_law, whole_again, whole_takes}
pub use Rattle.report_words.proofs.WordsOnline.{column_some, numbers_online, opening_within_online}
