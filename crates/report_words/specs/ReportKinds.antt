-- how the kinds of faults of a report are written
use Rattle.std.specs.Prelude.{ℕ, List, codes}
use Rattle.text_kit.specs.Terms.{number_word}
use Rattle.report_words.{specs.declared.fault.ReportKind.ReportKind, specs.declared.fault.ReportKind.TheVariants.{Header, Section, Token, Ended, Number, UnknownName, DoubleName, LimitName, Limit}}

-- the word of each kind
abbrev pub report_kind_word : ReportKind → List ℕ
report_kind_word Header = codes "header"
report_kind_word Section = codes "section"
report_kind_word Token = codes "token"
report_kind_word Ended = codes "ended"
report_kind_word (Number fault) = number_word fault
report_kind_word UnknownName = codes "unknown-name"
report_kind_word DoubleName = codes "double-name"
report_kind_word LimitName = codes "limit-name"
report_kind_word Limit = codes "limit"
