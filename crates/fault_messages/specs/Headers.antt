-- what a file with another header than is expected seems to be
use Rattle.std.{specs.Prelude.{◌≡◌, ◌⊎◌, ℕ, Bool, true, false, ◌||◌, cond, List, [], ◌∷◌, codes, nat_eq, Option, Some, None}, specs.List.starts_with}
use Rattle.fault_texts.specs.Quotes.{note_text}
use Rattle.fault_messages.{specs.declared.header.Beginning.Beginning, specs.declared.header.FileFormat.FileFormat}
use Rattle.fault_messages.specs.declared.header.Beginning.TheVariants as beginnings
use Rattle.fault_messages.specs.declared.header.FileFormat.TheVariants as formats

-- how the first line of a format begins, whatever its version
abbrev pub front : FileFormat → List ℕ
front formats.Network = codes "?SNDlib native format; type: network"
front formats.Model = codes "?SNDlib native format; type: model"
front formats.Failures = codes "?planner failures"
front formats.Script = codes "?planner script"
front formats.Report = codes "?planner report"
front formats.Flows = codes "?planner flows"

-- a file begins so: with a byte order mark of UTF-8 or UTF-16, as gzip, zip or XML does, or as a format does
abbrev pub begins_as : Beginning → List ℕ → Bool
begins_as beginnings.Mark bytes = starts_with nat_eq bytes (239 ∷ 187 ∷ 191 ∷ [])
begins_as beginnings.Utf16 bytes = starts_with nat_eq bytes (255 ∷ 254 ∷ []) || starts_with nat_eq bytes (254 ∷ 255 ∷ [])
begins_as beginnings.Gzip bytes = starts_with nat_eq bytes (31 ∷ 139 ∷ [])
begins_as beginnings.Zip bytes = starts_with nat_eq bytes (codes "PK")
begins_as beginnings.Xml bytes = starts_with nat_eq bytes (codes "<")
begins_as (beginnings.Format format) bytes = starts_with nat_eq bytes (front format)

-- what is said of a file of a format
abbrev pub format_guess : FileFormat → List ℕ
format_guess formats.Network = codes "the file seems to be a network"
format_guess formats.Model = codes "the file seems to be a model"
format_guess formats.Failures = codes "the file seems to be a failure list"
format_guess formats.Script = codes "the file seems to be a script"
format_guess formats.Report = codes "the file seems to be a report"
format_guess formats.Flows = codes "the file seems to be a file of flows"

-- what is said of a file that begins so
abbrev pub guess : Beginning → List ℕ
guess beginnings.Mark = codes "the file begins with a byte order mark: save it as UTF-8 without one"
guess beginnings.Utf16 = codes "the file seems to be UTF-16: save it as UTF-8"
guess beginnings.Gzip = codes "the file seems to be packed by gzip: unpack it first"
guess beginnings.Zip = codes "the file seems to be packed by zip: unpack it first"
guess beginnings.Xml = codes "the file seems to be XML: a network is read in SNDlib's native format"
guess (beginnings.Format format) = format_guess format

-- the first of these ways in which a file begins
abbrev pub first_beginning : List ℕ → List Beginning → Option Beginning
first_beginning bytes [] = None
first_beginning bytes (b ∷ bs) = cond (begins_as b bytes) (Some b) (first_beginning bytes bs)

-- the file begins in none of these ways
abbrev pub HasNoGuess : List ℕ → Type 0
HasNoGuess bytes = (b : Beginning) → begins_as b bytes ≡ false

-- What is said of a file that should be of a format: that its first line ends otherwise, if it begins as one of that format; else how it begins.
abbrev pub IsGuess : FileFormat → List ℕ → List ℕ → Type 0
IsGuess expected bytes words =
    ((starts_with nat_eq bytes (front expected) ≡ true) × (words ≡ codes "the first line begins so, but ends otherwise: is it of another version?"))
    ⊎ ((starts_with nat_eq bytes (front expected) ≡ false) × ((b : Beginning) × (begins_as b bytes ≡ true) × (words ≡ guess b)))

-- a line that says so, if there is anything to say
abbrev pub IsHeaderNote : FileFormat → List ℕ → List ℕ → Type 0
IsHeaderNote expected bytes note = (HasNoGuess bytes × (note ≡ [])) ⊎ ((words : List ℕ) × IsGuess expected bytes words × (note ≡ note_text words))
