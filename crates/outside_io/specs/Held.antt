-- shelves and sinks in memory
use Rattle.std.specs.Prelude.{◌≡◌, ◌≢◌, ℕ, ◌+◌, ◌/◌, ◌≤◌, ◌⊎◌, List, ◌++◌, length, take, map, AllPairs, Contains, Result, MatchResult}
use Rattle.outside_io.{specs.declared.memory.MemFile.MemFile, specs.declared.shelf.Fetch.Fetch, specs.declared.shelf.Fetch.TheVariants.Failed, specs.Outside.{Files, one_more}}

-- all names are different
abbrev pub HaveDifferentNames : List MemFile → Type 0
HaveDifferentNames held = AllPairs (λ f g. f.name ≢ g.name) held

-- the files by their names
abbrev pub files_of : List MemFile → Files
files_of held = map (λ f. (f.name, f.bytes)) held

-- a shelf in memory: its files, the numbers of the calls that fail, how many calls there were, and how many of them failed
pub record HeldFiles : Type 0 where
  pub files : Files
  pub failing : List ℕ
  pub calls : ℕ
  pub faults : ℕ

-- a sink in memory: the bytes that it took, its room for them, the numbers of the calls that fail, how many calls there were, and how many of them failed
pub record HeldOutput : Type 0 where
  pub taken : List ℕ
  pub room : ℕ
  pub failing : List ℕ
  pub calls : ℕ
  pub faults : ℕ

-- a count of faults after a fetch
abbrev pub faults_after : Fetch → ℕ → ℕ
faults_after (Failed fault) faults = one_more faults
faults_after _ faults = faults

-- the shelf after a fetch
abbrev pub after_fetch : Fetch → HeldFiles → HeldFiles
after_fetch answer shelf = record shelf { calls = one_more shelf.calls; faults = faults_after answer shelf.faults }

-- the sink with more bytes
abbrev pub taking : List ℕ → HeldOutput → HeldOutput
taking bytes sink = record sink { taken = sink.taken ++ bytes }

-- the sink after one call more
abbrev pub after_put : HeldOutput → HeldOutput
after_put sink = record sink { calls = one_more sink.calls }

-- the sink after one call more, which failed
abbrev pub after_fault : HeldOutput → HeldOutput
after_fault sink = record sink { calls = one_more sink.calls; faults = one_more sink.faults }

-- the piece fits into what is left of the room
abbrev pub Fits : HeldOutput → List ℕ → Type 0
Fits sink piece = length sink.taken + length piece ≤ sink.room

-- the next call is one of those that fail
abbrev pub IsNumbered : HeldOutput → Type 0
IsNumbered sink = Contains sink.failing sink.calls

-- a put of a piece that doesn't fit takes nothing, one of a failing number half of the piece, and any other all of it
abbrev pub PutsHeld : {E : Type 0} → HeldOutput → HeldOutput → Result (Unit {0}) E → List ℕ → Type 0
PutsHeld old new answer piece = MatchResult answer
    (λ _. Fits old piece × (IsNumbered old → ⊥) × (new ≡ after_put (taking piece old)))
    (λ _. ((Fits old piece → ⊥) × (new ≡ after_fault old))
    ⊎ (Fits old piece × IsNumbered old × (new ≡ after_fault (taking (take (length piece / 2) piece) old))))
