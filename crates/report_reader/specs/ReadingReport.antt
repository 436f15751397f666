-- Reading a report from left to right: its parts in their order, and its first fault.
use Rattle.std.specs.Prelude.{ℕ, ◌+◌, List, [], ◌∷◌, length, map, slice_get, codes}
use Rattle.plan_terms.specs.Terms.{Entry, Edited, Pooled, Notes, CutLine, Listed}
use Rattle.text_kit.specs.Terms.{file_at, Read, Reading, ◌>>=◌, expected, give, list_at, no_fault, open_at, Parenthesis, whole_at, word_at}
use Rattle.plan_report.specs.Terms.{line_lengths, line_state, state_name, report_header, KnownNames, Outcome, Planned, Unsurvivable, Report}
use Rattle.report_words.{specs.declared.fault.ReportKind.ReportKind, specs.declared.fault.ReportKind.TheVariants.{Header, Section, Ended}, specs.Terms.{closing_at, has_room, keyword_at, name_at, opening_at, this_name_at, field_at, Branches, branch_within}}
use Rattle.report_reader.{specs.declared.parts.Head.Head, specs.ReadingJournal.{entries_at, notes_at, pool_at}, specs.ReadingPlan.plan_at}

-- ---- outcomes

unfoldable pub head_at : Reading ReportKind Head
head_at = do
  caller ← field_at (codes "caller") 1 9
  serial ← field_at (codes "plan") 1 65
  version ← field_at (codes "version") 0 65537
  position ← field_at (codes "position") 0 65537
  give (record { caller = caller; serial = serial; version = version; position = position })

unfoldable pub planned_at : KnownNames → List CutLine → Reading ReportKind Outcome
planned_at names pool = do
  _ ← opening_at
  head ← head_at
  plan ← plan_at names pool head
  _ ← closing_at
  give (Planned head.caller head.serial plan)

-- the state and the demand for which there is no plan, and the closing parenthesis
unfoldable pub separated_at : List Listed → Head → Reading ReportKind Outcome
separated_at listed head = do
  state ← field_at (codes "state") 0 (length listed + 1)
  _ ← this_name_at (state_name listed state)
  _ ← keyword_at (codes "demand")
  demand ← name_at
  _ ← closing_at
  give (Unsurvivable head.caller head.serial head.version head.position (record { 0 = state }) demand)

unfoldable pub unsurvivable_at : List Listed → Reading ReportKind Outcome
unsurvivable_at listed = do
  _ ← opening_at
  head ← head_at
  separated_at listed head

abbrev pub outcome_branches : KnownNames → List CutLine → Branches Outcome
outcome_branches names pool = (codes "PLAN", planned_at names pool) ∷ (codes "UNSURVIVABLE", unsurvivable_at names.listed) ∷ []

-- up to 64 outcomes
abbrev pub outcomes_at : KnownNames → List CutLine → Reading ReportKind (List Outcome)
outcomes_at names pool = list_at Parenthesis no_fault (λ sofar. branch_within (has_room 64 sofar) (outcome_branches names pool)) []

-- ---- the whole report

-- a section's word and the parenthesis after it
unfoldable pub section_at : List ℕ → Reading ReportKind (Unit {0})
section_at w = word_at Section Ended (expected Section w) >>= λ _. open_at Section Ended

-- an entry that names a line of the pool has that line's state and lengths; one whose line isn't there has state 0 and no lengths
abbrev pub filled : List CutLine → Entry → Entry
filled pool (Edited caller edit reply) = Edited caller edit reply
filled pool (Pooled index state lengths) = Pooled index (record { 0 = line_state (slice_get pool index) }) (line_lengths (slice_get pool index))

-- the pool and the outcomes, after the notes and the entries
unfoldable pub last_sections_at : KnownNames → Notes → List Entry → Reading ReportKind Report
last_sections_at names notes entries = do
  _ ← section_at (codes "POOL")
  pool ← pool_at names
  _ ← section_at (codes "OUTCOMES")
  outcomes ← outcomes_at names pool
  give (record { notes = notes; entries = map (filled pool) entries; pool = pool; outcomes = outcomes })

-- all sections after the first line
unfoldable pub sections_at : KnownNames → Reading ReportKind Report
sections_at names = do
  _ ← section_at (codes "NOTES")
  notes ← notes_at
  _ ← section_at (codes "JOURNAL")
  entries ← entries_at names.places
  last_sections_at names notes entries

-- a whole text of a report
abbrev pub report_at : KnownNames → Reading ReportKind Report
report_at names = whole_at Section (sections_at names)

-- a whole file: its report, or its first fault by place
abbrev pub report_of : KnownNames → List ℕ → Read ReportKind Report
report_of names bytes = file_at Header (report_header names.places) (report_at names) bytes
