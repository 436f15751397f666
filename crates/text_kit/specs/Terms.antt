-- The words of this crate, passed on from one place to other crates. Declares nothing.
pub use Rattle.text_kit.specs.Answers.{AnswersAs, Fails, Passes, ReadsAllAs, ReadsAs, TakesElement}
pub use Rattle.text_kit.specs.Edits.{IsEditInForm, edit_items, enclosed, ends_items, section}
pub use Rattle.text_kit.specs.Files.{IsFileOf, IsNotTooEarly, SpellsAs, SpellsBy, body, file_at}
pub use Rattle.text_kit.specs.Items.{AreSpelled, Begins, Closing, ComeAfter, IsMadeOf, Item, Money, Opening, SpellsItem, Verbatim, Whole}
pub use Rattle.text_kit.specs.Laws.{IsHeaderLine}
pub use Rattle.text_kit.specs.Names.{any_name, found_or, long_name_fault, named_place, new_name, new_name_fault}
pub use Rattle.text_kit.specs.Numbers.{number_or, number_word}
pub use Rattle.text_kit.specs.Places.{EndsBefore, place}
pub use Rattle.text_kit.specs.Reading.{Ending, Parenthesis, Read, Reading, TheEnd, TheWord, after, close_at, each_at, end_at, expected, give, list_at, mapped, no_fault, not_empty, of_length, open_at, over_at, past_ending, placed, sound, step_at, whole_at, word_at, ◌>>=◌}
pub use Rattle.text_kit.specs.Written.{AddsItems, AddsText, IsShortItem, IsWritable, byte_after, last_digit, last_digits, money_word, word_of, written}
