-- The lemmas that other crates cite, passed on from one place. Declares nothing.
pub use Rattle.text_kit.proofs.Adding.{adds_all, adds_enclosed, adds_list, adds_more, adds_next, adds_section, adds_then, on_ok, writable}
pub use Rattle.text_kit.proofs.After.{after_all, after_as, after_both, after_differ, all_after, differ_after}
pub use Rattle.text_kit.proofs.Alike.{Rises, Same, agree_same, past, plus, rises_past}
pub use Rattle.text_kit.proofs.Amounts.{amount_again, amount_takes, lawful_amount, number_takes}
pub use Rattle.text_kit.proofs.Files.{answer_first, answer_found, answer_only, fault_kept, file_read, first_spelled, found_spelled, only_spelled, spelled_faultless, spelled_read, written_is_read}
pub use Rattle.text_kit.proofs.Lawful.{AnyText, IsEnd, Lawful, Starts, after_few, few_after, is_same, key_if, lawful_as, lawful_close, lawful_end, lawful_give, lawful_key, lawful_list, lawful_open, lawful_some, lawful_then, lawful_whole, lawful_word}
pub use Rattle.text_kit.proofs.NameLaws.{IsNew, IsPlaceIn, are_new, fault_none, found_takes, lawful_any_name, lawful_new_name, lawful_place, new_are, none_fault, place_again, place_takes}
pub use Rattle.text_kit.proofs.Numerals.{decimal_plain, drop_first, money_again, take_first}
pub use Rattle.text_kit.proofs.Online.{Failed, IsOnline, TakesSome, Took, err_parts, ok_parts, online_close, online_end, online_give, online_list, online_open, online_over, online_step, online_then, online_whole, online_word, takes_some}
pub use Rattle.text_kit.proofs.Outcomes.{if_ok, ok_is, unless_ok}
pub use Rattle.text_kit.proofs.Spelled.{Spelled, SpelledAfter, after_parts, law_spelled, parts_after, spelled_as, spelled_give, spelled_law, spelled_list, spelled_then, spelled_word}
pub use Rattle.text_kit.proofs.Turns.{each_turn, list_fails, list_turn, lists_alike}
pub use Rattle.text_kit.proofs.Written.{from_is, item_begins, space_passed, text_ends}
pub use Rattle.text_kit.proofs.Agreeing.{files_agree, run_same, take_less}
pub use Rattle.text_kit.proofs.Rising.{file_rises}
