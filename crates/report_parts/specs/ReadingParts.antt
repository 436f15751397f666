-- Reading the demands, the modules and the certificate of a plan.
use Rattle.std.specs.Prelude.{ℕ, ◌+◌, ◌^◌, nat_lt, ◌&&◌, List, [], ◌∷◌, ◌++◌, length, Option, Some, None, Result, Ok, Err, slice_get, codes}
use Rattle.plan_terms.specs.Terms.{Demand, NodeId, Link, Places, CutLine, modules_capacity}
use Rattle.text_kit.specs.Terms.{Reading, ◌>>=◌, give, list_at, mapped, no_fault, of_length, Parenthesis, word_at}
use Rattle.plan_report.specs.Terms.{line_lengths, line_state, KnownNames, CertLine, Certificate, Pool, Local}
use Rattle.report_words.{specs.declared.fault.ReportKind.ReportKind, specs.declared.fault.ReportKind.TheVariants.{Token, Ended, Limit}, specs.Terms.{amount_at, closing_at, has_room, keyword_at, new_demand, node_at, number_at, opening_at, opening_within, this_name_at, unknown_name, where_room, whole_within, field_at, branch_at, numbers_at}}
use Rattle.report_parts.specs.declared.spot_cut.SpotCut.{SpotCut}

-- ---- demands

-- two nodes between parentheses
unfoldable pub nodes_at : List (List ℕ) → Reading ReportKind (NodeId × NodeId)
nodes_at nodes = do
  _ ← opening_at
  from ← node_at nodes
  to ← node_at nodes
  _ ← closing_at
  give (from, to)

-- a demand after earlier ones
unfoldable pub plan_demand_at : Places → List (List ℕ) → List Demand → Reading ReportKind Demand
plan_demand_at p nodes sofar = do
  name ← word_at Token Ended (new_demand sofar)
  ends ← nodes_at nodes
  need ← amount_at p
  give (record { name = name; from = ends.0; to = ends.1; need = need })

-- further demands after these, up to the closing parenthesis
abbrev pub demand_list_at : Places → List (List ℕ) → List Demand → Reading ReportKind (List Demand)
demand_list_at p nodes sofar = list_at Parenthesis no_fault (plan_demand_at p nodes) sofar

-- all demands after the word of their section
unfoldable pub plan_demands_at : Places → List (List ℕ) → Reading ReportKind (List Demand)
plan_demands_at p nodes = do
  _ ← keyword_at (codes "DEMANDS")
  _ ← opening_at
  demand_list_at p nodes []

-- ---- modules

-- a count after those of the modules before it: the link has a further module, and less than 2^46 units of capacity with it
abbrev pub count_within : Link → List ℕ → Result ℕ ReportKind → Result ℕ ReportKind
count_within l sofar (Ok n) = where_room (has_room (length l.modules) sofar && nat_lt (l.fixed + modules_capacity l.modules (sofar ++ n ∷ [])) (2 ^ 46)) (Ok n)
count_within l sofar (Err kind) = Err kind

abbrev pub count_at : Link → List ℕ → Reading ReportKind ℕ
count_at l sofar = word_at Token Ended (λ w. count_within l sofar (whole_within 0 (2 ^ 44) w))

-- the counts of the next link; after the last, no name is known
unfoldable pub counts_at : Option Link → Reading ReportKind (List ℕ)
counts_at None = word_at Token Ended (λ w. Err (unknown_name w))
counts_at (Some l) = do
  _ ← this_name_at l.name
  _ ← opening_at
  list_at Parenthesis (of_length (length l.modules) Limit) (count_at l) []

abbrev pub next_counts_at : List Link → List (List ℕ) → Reading ReportKind (List ℕ)
next_counts_at links sofar = counts_at (slice_get links (length sofar))

-- the counts of all links, up to the closing parenthesis
abbrev pub all_counts_at : List Link → Reading ReportKind (List (List ℕ))
all_counts_at links = list_at Parenthesis (of_length (length links) Limit) (next_counts_at links) []

unfoldable pub modules_at : List Link → Reading ReportKind (List (List ℕ))
modules_at links = do
  _ ← keyword_at (codes "MODULES")
  _ ← opening_at
  all_counts_at links

-- ---- the certificate

-- a cut of the pool, with the state and the lengths of its line
abbrev pub of_line : List CutLine → ℕ → SpotCut
of_line pool i = record { spot = Pool i; state = record { 0 = line_state (slice_get pool i) }; lengths = line_lengths (slice_get pool i) }

unfoldable pub pool_spot_at : List CutLine → Reading ReportKind SpotCut
pool_spot_at pool = mapped (of_line pool) (number_at 0 (length pool))

unfoldable pub local_spot_at : KnownNames → Reading ReportKind SpotCut
local_spot_at names = do
  state ← number_at 0 (length names.listed + 1)
  lengths ← numbers_at (length names.links) (2 ^ 32)
  give (record { spot = Local; state = record { 0 = state }; lengths = lengths })

abbrev pub spot_at : KnownNames → List CutLine → Reading ReportKind SpotCut
spot_at names pool = branch_at ((codes "pool", pool_spot_at pool) ∷ (codes "local", local_spot_at names) ∷ [])

-- the right side of a line, and the closing parenthesis
unfoldable pub right_side_at : Reading ReportKind ℕ
right_side_at = do
  right ← field_at (codes "right") 0 (2 ^ 84)
  _ ← closing_at
  give right

-- a line after earlier ones
unfoldable pub certificate_line_at : KnownNames → List CutLine → List CertLine → Reading ReportKind CertLine
certificate_line_at names pool sofar = do
  _ ← opening_within (has_room 256 sofar)
  num ← number_at 0 (2 ^ 62)
  cut ← spot_at names pool
  right ← right_side_at
  give (record { num = num; spot = cut.spot; cut = record { state = cut.state; lengths = cut.lengths; right = right } })

unfoldable pub certificate_at : KnownNames → List CutLine → Reading ReportKind Certificate
certificate_at names pool = do
  _ ← keyword_at (codes "CERTIFICATE")
  _ ← opening_at
  den ← number_at 1 (2 ^ 72)
  lines ← list_at Parenthesis no_fault (certificate_line_at names pool) []
  give (record { den = den; lines = lines })
