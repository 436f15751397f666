-- whole files: a header line, and a text after it
use Rattle.std.specs.Prelude.{◌≡◌, ℕ, if◌then◌else◌, List, take, Err}
use Rattle.net_core.specs.Terms.{are_same}
use Rattle.snd_tokens.specs.Terms.{HasHeader, first_line, second_line, trimmed, Text, text_from}
use Rattle.text_kit.{specs.Items.{Item, IsMadeOf}, specs.Places.EndsBefore, specs.Reading.{Read, Reading}, specs.declared.refusal.Refusal.Refusal, specs.declared.refusal.Refusal.TheVariants.{Bad, NoMemory}}

-- the text after the first line
abbrev pub body : List ℕ → Text
body bytes = text_from (second_line bytes) bytes

-- a file with this header, whose text is these items
abbrev pub IsFileOf : List ℕ → List Item → List ℕ → Type 0
IsFileOf header items bytes = HasHeader bytes header × IsMadeOf items (body bytes)

-- the bytes are a file of something in form, which means y
abbrev pub SpellsAs : {X Y : Type 0} → List ℕ → (X → List Item) → (X → Type 0) → (X → Y) → List ℕ → Y → Type 0
SpellsAs {X} header items is meaning bytes y = (x : X) × is x × IsFileOf header (items x) bytes × (meaning x ≡ y)

-- the bytes are a file with this header, whose items spell x
abbrev pub SpellsBy : {X : Type 0} → List ℕ → (X → List Item → Type 0) → List ℕ → X → Type 0
SpellsBy header Spells bytes x = (items : List Item) × Spells x items × IsFileOf header items bytes

-- what a reading gives of a file; another first line is a fault at 0
abbrev pub file_at : {K X : Type 0} → K → List ℕ → Reading K X → List ℕ → Read K X
file_at other header r bytes = if are_same (trimmed (first_line bytes)) header then r (body bytes) else Err (0, other)

-- A fault isn't too early: no bytes that agree past the lexeme at its place are spelled right. It says nothing of the header and of the end.
abbrev pub IsNotTooEarly : {K X : Type 0} → (List ℕ → X → Type 0) → List ℕ → Refusal K → Type 0
IsNotTooEarly {X} Spells bytes (Bad at kind) =
    (other : List ℕ) (n : ℕ) → take n bytes ≡ take n other → EndsBefore at n (body bytes) → (x : X) → Spells other x → ⊥
IsNotTooEarly Spells bytes NoMemory = Unit {0}
