-- the steps in which a file is read and a piece is written
use Rattle.std.{specs.Prelude.{◌≡◌, ◌≢◌, ℕ, ◌+◌, ◌≤◌, ◌<◌, ◌⊎◌, List, [], ◌++◌, length, take, Option, Some, None, IfSome, ⊤, Result, MatchResult}, specs.IoError.error_kind, specs.declared.io.Error.Error, specs.declared.io.ErrorKind.ErrorKind, specs.declared.io.ErrorKind.TheVariants.{IsADirectory, NotFound, PermissionDenied, QuotaExceeded, StorageFull}, specs.Io.KnownBytes.{Consumes, Appends, IsAtEnd}}
use Rattle.outside_io.{specs.declared.shelf.Fetch.Fetch, specs.declared.shelf.ReadFault.ReadFault, specs.declared.shelf.ReadFault.TheVariants.{Folder, NoRight, Other}, specs.declared.shelf.Fetch.TheVariants.{Found, Missing, TooLong, Failed, NoMemory}}

-- what reading an open file to its end answers, and what it leaves in an empty buffer, where the bytes of the file are known
abbrev pub Reads : Option (List ℕ) → ℕ → Fetch → List ℕ → Type 0
Reads known limit Found into = IfSome known (λ bytes. into ≡ bytes) × (length into ≤ limit)
Reads known limit Missing into = ⊥
Reads known limit TooLong into = IfSome known (λ bytes. limit < length bytes)
Reads known limit (Failed fault) into = ⊤
Reads known limit NoMemory into = ⊤

-- what the machine's kind of an error says of a file
abbrev pub IsFaultOf : ErrorKind → ReadFault → Type 0
IsFaultOf kind Folder = kind ≡ IsADirectory
IsFaultOf kind NoRight = kind ≡ PermissionDenied
IsFaultOf kind Other = (kind ≢ IsADirectory) × (kind ≢ PermissionDenied)

-- what a file that can't be opened answers: only one that doesn't exist is missing
abbrev pub AnswersUnopened : Error → Fetch → Type 0
AnswersUnopened e Missing = error_kind e ≡ NotFound
AnswersUnopened e (Failed fault) = (error_kind e ≢ NotFound) × IsFaultOf (error_kind e) fault
AnswersUnopened e _ = ⊥

-- at most this number of bytes was read, where the bytes of the file are known
abbrev pub ConsumesUpTo : ℕ → Option (List ℕ) → Option (List ℕ) → Type 0
ConsumesUpTo most old new = (bytes : List ℕ) × (length bytes ≤ most) × Consumes old new bytes

-- what one read answers, where this number of bytes is left of the limit: with no answer it appended what it read, and there may be more
abbrev pub ReadsOnce : Option (List ℕ) → Option (List ℕ) → ℕ → Option Fetch → List ℕ → List ℕ → Type 0
ReadsOnce old new left None before after =
    (bytes : List ℕ) × (length bytes ≤ left) × Consumes old new bytes × (after ≡ before ++ bytes)
ReadsOnce old new left (Some Found) before after = Consumes old new [] × IsAtEnd new × (after ≡ before)
ReadsOnce old new left (Some Missing) before after = ⊥
ReadsOnce old new left (Some TooLong) before after =
    (bytes : List ℕ) × (length bytes ≡ left + 1) × Consumes old new bytes
ReadsOnce old new left (Some (Failed fault)) before after = ConsumesUpTo (left + 1) old new
ReadsOnce old new left (Some NoMemory) before after = ConsumesUpTo (left + 1) old new

-- the machine's kind of an error says that the disk has no room
abbrev pub IsFullDisk : ErrorKind → Type 0
IsFullDisk kind = (kind ≡ StorageFull) ⊎ (kind ≡ QuotaExceeded)

-- one write took a prefix of the piece, or at a fault nothing
abbrev pub WritesOnce : {E : Type 0} → Option (List ℕ) → Option (List ℕ) → Result ℕ E → List ℕ → Type 0
WritesOnce old new answer piece =
    MatchResult answer (λ n. (n ≤ length piece) × Appends old new (take n piece)) (λ _. Appends old new [])
