-- The words of this crate, passed on from one place to other crates. Declares nothing.
pub use Rattle.snd_tokens.specs.Amounts.{decimal_below, first_places, is_coarse, is_decimal, is_point, places_of, units, whole_part}
unfoldable pub use Rattle.snd_tokens.specs.Amounts.{amount_of, money_of, units_of}
pub use Rattle.snd_tokens.specs.Digits.{are_digits, is_digit, number_of}
pub use Rattle.snd_tokens.specs.Header.{HasHeader, first_line, second_line, trimmed}
pub use Rattle.snd_tokens.specs.Lexemes.{Close, CloseAt, EndAt, Lexeme, Open, OpenAt, Text, Word, WordAt, left, size, text_of}
unfoldable pub use Rattle.snd_tokens.specs.Lexemes.{text_from}
pub use Rattle.snd_tokens.specs.Tokens.{begun, extent, line_length, run_length, starts_token, token_bytes, token_of, tokens_past}
unfoldable pub use Rattle.snd_tokens.specs.Tokens.{tokens_from}
pub use Rattle.snd_tokens.specs.Wholes.{begins_with_zero}
unfoldable pub use Rattle.snd_tokens.specs.Wholes.{whole_of}
