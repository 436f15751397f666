-- Reading one comment line of a branch tree.
use Rattle.std.specs.Prelude.{ℕ, ◌+◌, ◌^◌, List, [], ◌∷◌, length, codes}
use Rattle.plan_terms.specs.Terms.{Demand}
use Rattle.plan_report.specs.Terms.{KnownNames}
use Rattle.text_kit.specs.Terms.{Reading, ◌>>=◌, end_at, give, no_fault, of_length}
use Rattle.report_words.{specs.declared.fault.ReportKind.ReportKind, specs.declared.fault.ReportKind.TheVariants.{Token, Limit}, specs.ReportChoices.next_number_at, specs.Terms.{Branches, branch_at, link_at, money_at, number_at, this_number_at}}
use Rattle.report_parts.specs.ReadingQuality.{evidence_at}
use Rattle.master_bound.specs.declared.answer.Multiplier.{Multiplier}
use Rattle.tree_check.{specs.Terms.{Divided, Table, TableKind, Plain, Failing}, specs.declared.proof.BoxCert.BoxCert, specs.declared.proof.Node.TheVariants.{Split, Closed, Empty, Spent, Stuck}, specs.declared.proof.Verdict.TheVariants.{Cheapest, Above}}
use Rattle.tree_reader.{specs.declared.run.Stop.Stop, specs.declared.run.Stop.TheVariants.{LineEnd, Wide}, specs.declared.sofar.TreeLine.TreeLine, specs.declared.sofar.TreeLine.TheVariants.{Cut, Further, Branch, Last}, specs.Runs.run_at}

-- ---- lists of numbers

-- one length below 2^32 for each of n links, up to the end of the line
abbrev pub lengths_at : ℕ → Reading ReportKind (List ℕ)
lengths_at n = run_at LineEnd (of_length n Limit) (next_number_at n (2 ^ 32)) []

-- weights below 2^32, up to the end of the line
abbrev pub weights_at : Reading ReportKind (List ℕ)
weights_at = run_at LineEnd no_fault (λ sofar. number_at 0 (2 ^ 32)) []

-- a numerator, and the index of its line
unfoldable pub term_at : Reading ReportKind Multiplier
term_at = do
  num ← number_at 0 (2 ^ 64)
  cut ← number_at 0 (2 ^ 32)
  give (record { cut = cut; num = num })

abbrev pub terms_at : Stop → Reading ReportKind (List Multiplier)
terms_at stop = run_at stop no_fault (λ sofar. term_at) []

-- ---- cuts and further lines, with their indices

unfoldable pub box_cut_at : KnownNames → ℕ → Reading ReportKind TreeLine
box_cut_at known index = do
  _ ← this_number_at index
  state ← number_at 0 (length known.listed + 1)
  right ← number_at 0 (2 ^ 126)
  lengths ← lengths_at (length known.links)
  give (Cut (record { state = record { 0 = state }; lengths = lengths; right = right }))

unfoldable pub divided_at : ℕ → Reading ReportKind TreeLine
divided_at index = do
  _ ← this_number_at index
  divisor ← number_at 0 (2 ^ 126)
  terms ← terms_at LineEnd
  give (Further (Divided divisor terms))

abbrev pub kind_at : Reading ReportKind TableKind
kind_at = branch_at ((codes "plain", give Plain) ∷ (codes "failing", give Failing) ∷ [])

unfoldable pub table_at : ℕ → Reading ReportKind TreeLine
table_at index = do
  _ ← this_number_at index
  line ← number_at 0 (2 ^ 32)
  kind ← kind_at
  weights ← weights_at
  give (Further (Table line kind weights))

-- ---- nodes

unfoldable pub split_at : KnownNames → Reading ReportKind TreeLine
split_at known = do
  link ← link_at known.links
  at_module ← number_at 0 (2 ^ 32)
  number ← number_at 0 (2 ^ 64)
  _ ← end_at Token
  give (Branch (Split link at_module number))

unfoldable pub certificate_to : Stop → Reading ReportKind BoxCert
certificate_to stop = do
  den ← number_at 0 (2 ^ 126)
  lines ← terms_at stop
  give (record { den = den; lines = lines })

unfoldable pub closed_at : Reading ReportKind TreeLine
closed_at = do
  cert ← certificate_to LineEnd
  give (Branch (Closed cert))

unfoldable pub empty_at : Reading ReportKind TreeLine
empty_at = do
  cut ← number_at 0 (2 ^ 32)
  _ ← end_at Token
  give (Branch (Empty cut))

unfoldable pub spent_at : Reading ReportKind TreeLine
spent_at = do
  cert ← certificate_to LineEnd
  give (Branch (Spent cert))

unfoldable pub stuck_at : KnownNames → List Demand → Reading ReportKind TreeLine
stuck_at known demands = do
  cert ← certificate_to Wide
  evidence ← evidence_at known demands
  _ ← end_at Token
  give (Branch (Stuck cert evidence))

-- ---- verdicts

unfoldable pub cheapest_at : Reading ReportKind TreeLine
cheapest_at = do
  _ ← end_at Token
  give (Last Cheapest)

unfoldable pub above_at : KnownNames → Reading ReportKind TreeLine
above_at known = do
  least ← money_at known.places (2 ^ 126)
  _ ← end_at Token
  give (Last (Above least))

-- ---- any line

-- the lines that may follow a node
abbrev pub node_branches : KnownNames → List Demand → Branches TreeLine
node_branches known demands =
    (codes "split", split_at known) ∷ (codes "closed", closed_at) ∷ (codes "empty", empty_at) ∷ (codes "spent", spent_at)
    ∷ (codes "stuck", stuck_at known demands) ∷ (codes "cheapest", cheapest_at) ∷ (codes "above", above_at known) ∷ []

-- and those that may follow a further line, where it is the next one's index
abbrev pub line_branches : KnownNames → List Demand → ℕ → Branches TreeLine
line_branches known demands index = (codes "line", divided_at index) ∷ (codes "table", table_at index) ∷ node_branches known demands

-- and those that may follow a cut
abbrev pub cut_branches : KnownNames → List Demand → ℕ → Branches TreeLine
cut_branches known demands index = (codes "box-cut", box_cut_at known index) ∷ line_branches known demands index
