-- boards: what they were made with, how they grow, and what they answer
use Rattle.std.specs.Prelude.{◌≡◌, ◌≢◌, ℕ, ◌<◌, ◌^◌, ◌++◌, List, [], ◌∷◌, All, Some, length, slice_get, true}
use Rattle.plan_terms.specs.Terms.{Demand, Edit, Entry, Edited, Pooled, Network, States, CutLine, Case, graph_in, AreDemands, Joins, case, IsCut, IsRight}
use Rattle.metric_cut.specs.declared.cut.Cut.{Cut}
use Rattle.net_core.specs.Limits.{most_cuts, most_entries}
use Rattle.cut_pool.{specs.declared.answers.AdmitAnswer.AdmitAnswer, specs.declared.answers.EditAnswer.EditAnswer, specs.declared.board.Board.Board, specs.declared.snapshot.Snapshot.Snapshot, specs.Histories.{IsLegalAfter, IsPoolAfter, cuts_of, demands_left, version_left}, specs.Rooms.{left_spare, sets_known}}
use Rattle.cut_pool.specs.declared.answers.AdmitAnswer.TheVariants as admitting
use Rattle.cut_pool.specs.declared.answers.EditAnswer.TheVariants as editing

-- what a board was made with: its network, its states and its opening demands
abbrev pub origin_of : Board → Network × States × List Demand
origin_of b = (b.net.now, b.states.now, b.opening.value)

-- the network, the states and the opening demands of a board, as a case
abbrev pub opening_case : Board → Case
opening_case b = case b.net.now b.states.now b.opening.value

-- how many edits that set the need of a known demand the board has memory for
abbrev pub spare_of : Board → ℕ
spare_of b = b.storage.spare

-- the board has one entry more, which is legal after the others, and its origin is as it was
pub record GrowsBy (entry : Entry) (old new : Board) : Type 0 where
  pub legal : IsLegalAfter (opening_case old) old.entries entry
  pub entries : new.entries ≡ old.entries ++ entry ∷ []
  pub origin : origin_of new ≡ origin_of old

-- nothing of the board has changed
pub record IsSameBoard (old new : Board) : Type 0 where
  pub entries : new.entries ≡ old.entries
  pub book : new.book ≡ old.book
  pub pool : new.pool ≡ old.pool
  pub origin : origin_of new ≡ origin_of old

-- the board's answer to a caller's edit, and what becomes of the board
abbrev pub AnswersEdit : Board → ℕ → Edit → EditAnswer → Board → Type 0
AnswersEdit old caller edit (editing.At position reply) new =
    (length old.entries < most_entries) × GrowsBy (Edited caller edit reply) old new × (position ≡ length new.entries)
AnswersEdit old caller edit (editing.Full back) new = (length old.entries ≡ most_entries) × (back ≡ edit) × IsSameBoard old new
AnswersEdit old caller edit (editing.NoMemory back) new = (length old.entries < most_entries) × (back ≡ edit) × IsSameBoard old new

-- what an edit leaves of that memory: setting a known demand's need takes from it, and runs out only where none is spared
abbrev pub SparesEdit : Board → Edit → EditAnswer → Board → Type 0
SparesEdit old edit (editing.At position reply) new = spare_of new ≡ left_spare (demands_left (opening_case old) old.entries) edit (spare_of old)
SparesEdit old edit (editing.Full back) new = spare_of new ≡ spare_of old
SparesEdit old edit (editing.NoMemory back) new =
    (spare_of new ≡ spare_of old) × (sets_known (demands_left (opening_case old) old.entries) edit ≡ true → spare_of old ≡ 0)

-- no cut that entries pool has this state and these lengths
abbrev pub IsNew : Cut → List Entry → Type 0
IsNew cut entries = All (λ c. c ≢ (cut.state.0, cut.lengths)) (cuts_of entries)

-- the board's answer to a cut, and what becomes of the board
abbrev pub AnswersAdmit : Board → Cut → AdmitAnswer → Board → Type 0
AnswersAdmit old cut (admitting.Admitted index position) new =
    IsNew cut old.entries
    × (length (cuts_of old.entries) < most_cuts)
    × (length old.entries < most_entries)
    × GrowsBy (Pooled index cut.state cut.lengths) old new
    × (index ≡ length (cuts_of old.entries))
    × (position ≡ length new.entries)
AnswersAdmit old cut (admitting.Known index back) new =
    (slice_get (cuts_of old.entries) index ≡ Some (cut.state.0, cut.lengths)) × (back ≡ cut) × IsSameBoard old new
AnswersAdmit old cut (admitting.PoolFull back) new =
    IsNew cut old.entries × (length (cuts_of old.entries) ≡ most_cuts) × (back ≡ cut) × IsSameBoard old new
AnswersAdmit old cut (admitting.Full back) new =
    IsNew cut old.entries × (length (cuts_of old.entries) < most_cuts) × (length old.entries ≡ most_entries) × (back ≡ cut) × IsSameBoard old new
AnswersAdmit old cut (admitting.NoMemory back) new =
    IsNew cut old.entries × (length (cuts_of old.entries) < most_cuts) × (length old.entries < most_entries) × (back ≡ cut) × IsSameBoard old new

-- this is the right side of the cut of an index at the demands now
abbrev pub IsRightNow : Board → ℕ → ℕ → Type 0
IsRightNow b index right = (cut : ℕ × List ℕ) → slice_get (cuts_of b.entries) index ≡ Some cut
    → ∥ IsRight (Joins (graph_in (opening_case b) cut.0)) cut.1 (demands_left (opening_case b) b.entries) right ∥₁

-- the lines of the board's pool, with right sides at the demands now
pub record AreLinesNow (b : Board) (lines : List CutLine) : Type 0 where
  pub pool : ∥ IsPoolAfter (opening_case b) b.entries lines ∥₁
  pub cuts : ∥ All (IsCut (case b.net.now b.states.now (demands_left (opening_case b) b.entries))) lines ∥₁
  pub low : All (λ l. l.right < 2 ^ 84) lines

-- these are the right sides of the pool's cuts at the demands now, in their order
pub record IsAudit (b : Board) (rights : List ℕ) : Type 0 where
  pub count : length rights ≡ length (cuts_of b.entries)
  pub each : (k right : ℕ) → slice_get rights k ≡ Some right → IsRightNow b k right

-- the snapshot of a board: its position, the version and the demands, and the pool with right sides at these demands
pub record IsSnapshotOf (b : Board) (s : Snapshot) : Type 0 where
  pub position_is : s.position ≡ length b.entries
  pub version_is : s.version ≡ version_left (opening_case b) b.entries
  pub demands_are : s.demands ≡ demands_left (opening_case b) b.entries
  pub belong : AreDemands (length b.net.now.nodes) s.demands
  pub pool : ∥ IsPoolAfter (opening_case b) b.entries s.cuts ∥₁
  pub cuts_are : ∥ All (IsCut (case b.net.now b.states.now s.demands)) s.cuts ∥₁
  pub low : All (λ l. l.right < 2 ^ 84) s.cuts
