-- Numbers after the word that says what they are.
use Rattle.std.specs.Prelude.{ℕ, List}
use Rattle.text_kit.specs.Terms.{Reading, ◌>>=◌}
use Rattle.report_words.{specs.declared.fault.ReportKind.ReportKind, specs.ReportWords.{keyword_at, number_at}}

-- this word, and a number in its range
unfoldable pub field_at : List ℕ → ℕ → ℕ → Reading ReportKind ℕ
field_at w least limit = keyword_at w >>= λ _. number_at least limit
