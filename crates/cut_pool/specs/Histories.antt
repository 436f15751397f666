-- histories of edits and pooled cuts, and what they leave; a case gives the network, its states and the opening demands
use Rattle.std.{specs.Prelude.{◌≡◌, ◌≢◌, ℕ, ◌≤◌, List, [], ◌∷◌, All, Some, length, map, slice_get, take}, specs.List.flat_map}
use Rattle.plan_terms.specs.Terms.{Demand, Entry, Edited, Pooled, CutLine, Case, graph_in, Joins, AreKept, IsRight, edit_reply, version_after}

-- demands, and the version that counts the accepted edits
pub record Dated : Type 0 where
  pub demands : List Demand
  pub version : ℕ

-- what an entry leaves: an edit is made as far as it is accepted, whatever reply it has, and a pooled cut changes nothing
abbrev pub left_by_entry : List (List ℕ) → Dated → Entry → Dated
left_by_entry nodes d (Edited caller edit reply) =
    let answer = edit_reply nodes d.demands d.version edit in
    record { demands = answer.1; version = version_after d.version answer.0 }
left_by_entry nodes d (Pooled index state lengths) = d

-- what entries leave, one after another
abbrev pub left_by : List (List ℕ) → Dated → List Entry → Dated
left_by nodes d [] = d
left_by nodes d (e ∷ es) = left_by nodes (left_by_entry nodes d e) es

-- the demands and the version that entries leave of the opening demands, whose version is 0
abbrev pub demands_left : Case → List Entry → List Demand
demands_left p entries = (left_by p.nodes (record { demands = p.demands; version = 0 }) entries).demands

abbrev pub version_left : Case → List Entry → ℕ
version_left p entries = (left_by p.nodes (record { demands = p.demands; version = 0 }) entries).version

-- the case with the demands that entries leave
abbrev pub case_left : Case → List Entry → Case
case_left p entries = record { nodes = p.nodes; links = p.links; listed = p.listed; demands = demands_left p entries; places = p.places }

-- the demands and the version after the first n entries of a history
abbrev pub demands_at : Case → List Entry → ℕ → List Demand
demands_at p entries n = demands_left p (take n entries)

abbrev pub version_at : Case → List Entry → ℕ → ℕ
version_at p entries n = version_left p (take n entries)

-- the cut that an entry pools, if it pools one: its state, and its lengths
abbrev pub pooled_by : Entry → List (ℕ × List ℕ)
pooled_by (Edited caller edit reply) = []
pooled_by (Pooled index state lengths) = (state.0, lengths) ∷ []

-- the cuts that entries pool, in their order
abbrev pub cuts_of : List Entry → List (ℕ × List ℕ)
cuts_of entries = flat_map pooled_by entries

-- The entry is legal after those before it: the reply of an edit is the one there; a pooled cut has lengths that a listed state
-- keeps, differs in state or lengths from all cuts before it, and has their number as its index.
abbrev pub IsLegalAfter : Case → List Entry → Entry → Type 0
IsLegalAfter p before (Edited caller edit reply) = (edit_reply p.nodes (demands_left p before) (version_left p before) edit).0 ≡ reply
IsLegalAfter p before (Pooled index state lengths) =
    (state.0 ≤ length p.listed)
    × AreKept (graph_in p state.0) lengths
    × All (λ cut. cut ≢ (state.0, lengths)) (cuts_of before)
    × (index ≡ length (cuts_of before))

-- each entry is legal after those before it
abbrev pub IsLegalHistory : Case → List Entry → Type 0
IsLegalHistory p entries = (n : ℕ) (e : Entry) → slice_get entries n ≡ Some e → IsLegalAfter p (take n entries) e

-- the state and lengths of a line of a pool
abbrev pub cut_of_line : CutLine → ℕ × List ℕ
cut_of_line line = (line.state.0, line.lengths)

-- the pool after entries: a line for each pooled cut, in order, with its right side at the demands that the entries leave
pub record IsPoolAfter (p : Case) (entries : List Entry) (lines : List CutLine) : Type 0 where
  pub cuts : map cut_of_line lines ≡ cuts_of entries
  pub rights : All (λ l. IsRight (Joins (graph_in p l.state.0)) l.lengths (demands_left p entries) l.right) lines

-- the board after a legal history: its demands, their version, and its pool
pub record IsBoardAfter (p : Case) (entries : List Entry) (demands : List Demand) (version : ℕ) (lines : List CutLine) : Type 0 where
  pub legal : IsLegalHistory p entries
  pub demands_are : demands ≡ demands_left p entries
  pub version_is : version ≡ version_left p entries
  pub pool : IsPoolAfter p entries lines
