-- the kinds of faults of a file of flows: how they are written, and what a report's faults are here
use Rattle.std.specs.Prelude.{ℕ, List, Result, Ok, Err, codes}
use Rattle.text_kit.{specs.Terms.{number_word, Read, Reading}, specs.declared.refusal.Refusal.Refusal, specs.declared.refusal.Refusal.TheVariants.{Bad, NoMemory}}
use Rattle.report_words.specs.declared.fault.ReportKind.{ReportKind}
use Rattle.flow_file.{specs.declared.fault.FlowsKind.FlowsKind, specs.declared.fault.FlowsKind.TheVariants.{Header, Section, Token, Ended, LimitName, Number, ZeroFlow, UnknownName, Limit}}
use Rattle.report_words.specs.declared.fault.ReportKind.TheVariants as report

-- the word of each kind
abbrev pub flows_kind_word : FlowsKind → List ℕ
flows_kind_word Header = codes "header"
flows_kind_word Section = codes "section"
flows_kind_word Token = codes "token"
flows_kind_word Ended = codes "ended"
flows_kind_word LimitName = codes "limit-name"
flows_kind_word (Number fault) = number_word fault
flows_kind_word ZeroFlow = codes "zero-flow"
flows_kind_word UnknownName = codes "unknown-name"
flows_kind_word Limit = codes "limit"

-- the kind of a report's fault; names that are listed twice aren't met here
abbrev pub flows_kind : ReportKind → FlowsKind
flows_kind report.Header = Header
flows_kind report.Section = Section
flows_kind report.Token = Token
flows_kind report.Ended = Ended
flows_kind report.LimitName = LimitName
flows_kind (report.Number fault) = Number fault
flows_kind report.UnknownName = UnknownName
flows_kind report.DoubleName = UnknownName
flows_kind report.Limit = Limit

-- an answer with its fault told by this format's kinds
abbrev pub told : {X : Type 0} → Result X (Refusal ReportKind) → Result X (Refusal FlowsKind)
told (Ok x) = Ok x
told (Err (Bad at kind)) = Err (Bad at (flows_kind kind))
told (Err NoMemory) = Err NoMemory

-- what was read, or the fault told so
abbrev pub retold : {X : Type 0} → Read ReportKind X → Read FlowsKind X
retold (Ok x) = Ok x
retold (Err e) = Err (e.0, flows_kind e.1)

-- a reading of a report's part
abbrev pub told_at : {X : Type 0} → Reading ReportKind X → Reading FlowsKind X
told_at r text = retold (r text)
