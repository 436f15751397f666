-- entries of a search in the order of a proof: the cuts first, then the lines
use Rattle.std.{specs.Prelude.{◌≡◌, ℕ, ◌+◌, Bool, true, false, if◌then◌else◌, List, [], ◌∷◌, length, map, slice_get, take}, specs.Option.option_map_or, proofs.Common.{inl, inr}}
use Rattle.plan_terms.specs.Terms.{Case, CutLine}
use Rattle.line_check.specs.Terms.{NamesLine, Source, sources_of, Multiplier}
use Rattle.tree_check.{specs.Terms.{Inequality, Line, Divided, Table}, specs.declared.proof.BoxCert.BoxCert, specs.declared.proof.Node.Node, specs.declared.proof.Node.TheVariants.{Split, Closed, Empty, Spent, Stuck}}
use Rattle.line_maker.{specs.declared.entry.Entry.Entry, specs.declared.order.Ordered.Ordered}
use Rattle.line_maker.specs.declared.entry.Entry.TheVariants as entry

-- the source that an entry is
abbrev pub source_of : Entry → Source
source_of (entry.Cut cut) = inl cut
source_of (entry.Line line) = inr line

-- an entry is a cut
abbrev pub is_cut_entry : Entry → Bool
is_cut_entry (entry.Cut cut) = true
is_cut_entry (entry.Line line) = false

-- the cuts among entries
abbrev pub cuts_among : List Entry → List CutLine
cuts_among [] = []
cuts_among (entry.Cut cut ∷ entries) = cut ∷ cuts_among entries
cuts_among (entry.Line line ∷ entries) = cuts_among entries

-- the lines among entries
abbrev pub lines_among : List Entry → List Line
lines_among [] = []
lines_among (entry.Cut cut ∷ entries) = lines_among entries
lines_among (entry.Line line ∷ entries) = line ∷ lines_among entries

-- how many of the first n entries are cuts
abbrev pub cuts_before : List Entry → ℕ → ℕ
cuts_before entries n = length (cuts_among (take n entries))

-- how many of them are lines
abbrev pub lines_before : List Entry → ℕ → ℕ
lines_before entries n = length (lines_among (take n entries))

-- the place of entry i among the cuts, or after all cuts among the lines; past the end it stays
abbrev pub place_of : List Entry → ℕ → ℕ
place_of entries i = option_map_or
    (λ e. if is_cut_entry e then cuts_before entries i else length (cuts_among entries) + lines_before entries i)
    (slice_get entries i) i

-- numerators by other indices
abbrev pub moved_multipliers : (ℕ → ℕ) → List Multiplier → List Multiplier
moved_multipliers to multipliers = map (λ m. record { cut = to m.cut; num = m.num }) multipliers

-- a line by other indices
abbrev pub moved_line : (ℕ → ℕ) → Line → Line
moved_line to (Divided divisor terms) = Divided divisor (moved_multipliers to terms)
moved_line to (Table line kind weights) = Table (to line) kind weights

-- a certificate by other indices
abbrev pub moved_certificate : (ℕ → ℕ) → BoxCert → BoxCert
moved_certificate to cert = record { den = cert.den; lines = moved_multipliers to cert.lines }

-- a node by other indices
abbrev pub moved_node : (ℕ → ℕ) → Node → Node
moved_node to (Split link at_module number) = Split link at_module number
moved_node to (Closed cert) = Closed (moved_certificate to cert)
moved_node to (Empty line) = Empty (to line)
moved_node to (Spent cert) = Spent (moved_certificate to cert)
moved_node to (Stuck cert evidence) = Stuck (moved_certificate to cert) evidence

-- the cuts, the lines and the nodes of a proof, where entries and nodes name each other by place
pub record IsOrderOf (entries : List Entry) (tree : List Node) (o : Ordered) : Type 0 where
  pub cuts : o.cuts ≡ cuts_among entries
  pub lines : o.lines ≡ map (moved_line (place_of entries)) (lines_among entries)
  pub tree_is : o.tree ≡ map (moved_node (place_of entries)) tree

-- What an entry's index names, its place in the order names.
abbrev pub NamesAreKept : Type 0
NamesAreKept = (p : Case) (entries : List Entry) (i : ℕ) (line : Inequality)
    → NamesLine p (map source_of entries) i line
    → NamesLine p (sources_of (cuts_among entries) (map (moved_line (place_of entries)) (lines_among entries))) (place_of entries i) line
