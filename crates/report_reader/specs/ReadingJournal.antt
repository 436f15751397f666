-- Reading the notes, the journal and the pool of a report.
use Rattle.std.specs.Prelude.{ℕ, ◌+◌, ◌^◌, Bool, true, false, List, [], ◌∷◌, length, Ok, codes}
use Rattle.plan_terms.specs.Terms.{Edit, Set, Add, Drop, Entry, Edited, Pooled, Reply, Accepted, UnknownDemand, KnownDemand, UnknownNode, SelfDemand, TooMany, TooMuch, Notes, Places, CutLine}
use Rattle.text_kit.{specs.Reading.ended_or, specs.Terms.{Reading, ◌>>=◌, give, list_at, mapped, no_fault, past_ending, Parenthesis, TheWord}}
use Rattle.plan_report.specs.Terms.{KnownNames}
use Rattle.report_words.{specs.declared.fault.ReportKind.ReportKind, specs.Terms.{amount_at, closing_at, has_room, money_at, name_at, number_at, opening_at, opening_within, this_number_at, field_at, Branches, branch_at, numbers_at}}
use Rattle.net_core.specs.Limits.{most_entries}

-- ---- the notes: up to three words in order, and the closing parenthesis

-- whether this word is next, which is then taken
abbrev pub flag_at : List ℕ → Reading ReportKind Bool
flag_at w text = ended_or (past_ending (TheWord w) text) (λ rest. Ok (true, rest)) (Ok (false, text))

unfoldable pub notes_at : Reading ReportKind Notes
notes_at = do
  fixed ← flag_at (codes "fixed")
  routing ← flag_at (codes "routing")
  setup ← flag_at (codes "setup")
  _ ← closing_at
  give (record { fixed_cost = fixed; routing_cost = routing; setup_cost = setup })

-- ---- the journal

unfoldable pub set_at : Places → Reading ReportKind Edit
set_at p = do
  name ← name_at
  need ← amount_at p
  give (Set name need)

-- two names between parentheses
unfoldable pub two_names_at : Reading ReportKind (List ℕ × List ℕ)
two_names_at = do
  _ ← opening_at
  from ← name_at
  to ← name_at
  _ ← closing_at
  give (from, to)

unfoldable pub add_at : Places → Reading ReportKind Edit
add_at p = do
  name ← name_at
  ends ← two_names_at
  need ← amount_at p
  give (Add name ends.0 ends.1 need)

unfoldable pub drop_at : Reading ReportKind Edit
drop_at = mapped Drop name_at

abbrev pub edit_at : Places → Reading ReportKind Edit
edit_at p = branch_at ((codes "set", set_at p) ∷ (codes "add", add_at p) ∷ (codes "drop", drop_at) ∷ [])

unfoldable pub accepted_at : Reading ReportKind Reply
accepted_at = mapped Accepted (number_at 0 65537)

unfoldable pub too_much_at : Places → Reading ReportKind Reply
too_much_at p = mapped TooMuch (money_at p (2 ^ 45))

abbrev pub reply_branches : Places → Branches Reply
reply_branches p = (codes "accepted", accepted_at) ∷ (codes "unknown-demand", give UnknownDemand) ∷ (codes "known-demand", give KnownDemand)
    ∷ (codes "unknown-node", give UnknownNode)
    ∷ (codes "self-demand", give SelfDemand) ∷ (codes "too-many", give TooMany) ∷ (codes "too-much", too_much_at p) ∷ []

unfoldable pub edited_at : Places → Reading ReportKind Entry
edited_at p = do
  caller ← number_at 1 9
  edit ← edit_at p
  reply ← branch_at (reply_branches p)
  give (Edited caller edit reply)

-- a cut of the pool, which comes later: its place alone
unfoldable pub pooled_at : Reading ReportKind Entry
pooled_at = mapped (λ index. Pooled index (record { 0 = 0 }) []) (number_at 0 4096)

abbrev pub event_at : Places → Reading ReportKind Entry
event_at p = branch_at ((codes "caller", edited_at p) ∷ (codes "cut", pooled_at) ∷ [])

-- an entry after earlier ones
unfoldable pub journal_entry_at : Places → List Entry → Reading ReportKind Entry
journal_entry_at p sofar = do
  _ ← opening_within (has_room most_entries sofar)
  _ ← this_number_at (length sofar + 1)
  event ← event_at p
  _ ← closing_at
  give event

abbrev pub entries_at : Places → Reading ReportKind (List Entry)
entries_at p = list_at Parenthesis no_fault (journal_entry_at p) []

-- ---- the pool

-- a cut: its state, its right side and its lengths, and the closing parenthesis
unfoldable pub pool_cut_at : KnownNames → Reading ReportKind CutLine
pool_cut_at names = do
  state ← field_at (codes "state") 0 (length names.listed + 1)
  right ← field_at (codes "right") 0 (2 ^ 84)
  lengths ← numbers_at (length names.links) (2 ^ 32)
  _ ← closing_at
  give (record { state = record { 0 = state }; lengths = lengths; right = right })

-- a line after earlier ones
unfoldable pub pool_line_at : KnownNames → List CutLine → Reading ReportKind CutLine
pool_line_at names sofar = do
  _ ← opening_within (has_room 4096 sofar)
  _ ← this_number_at (length sofar)
  pool_cut_at names

abbrev pub pool_at : KnownNames → Reading ReportKind (List CutLine)
pool_at names = list_at Parenthesis no_fault (pool_line_at names) []
