-- the counts of the machine's shelf and sink, and what a stream takes
use Rattle.std.{specs.Prelude.{ℕ, ◌≤◌, List, length, take, Option, Result, MatchResult}, specs.Io.KnownBytes.Appends}
use Rattle.outside_io.{specs.declared.files.FileShelf.FileShelf, specs.declared.stream.StreamSink.StreamSink}

-- how often a shelf of the machine's files has failed
abbrev pub shelf_faults : {F : Type 0} → FileShelf F → ℕ
shelf_faults shelf = shelf.faults

-- how often a sink over a stream has failed
abbrev pub sink_faults : {W : Type 0} → StreamSink W → ℕ
sink_faults sink = sink.faults

-- the stream that a sink writes to
abbrev pub stream_of : {W : Type 0} → StreamSink W → W
stream_of sink = sink.out

-- a stream took the whole piece, or at a fault a prefix of it, where the bytes that it holds are known
abbrev pub Writes : {E : Type 0} → Option (List ℕ) → Option (List ℕ) → Result (Unit {0}) E → List ℕ → Type 0
Writes old new answer piece =
    MatchResult answer (λ _. Appends old new piece) (λ _. (n : ℕ) × (n ≤ length piece) × Appends old new (take n piece))
