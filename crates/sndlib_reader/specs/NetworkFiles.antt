-- Whole network files: in which places they are read, and what they spell.
use Rattle.std.specs.Prelude.{◌≡◌, ℕ, Bool, true, false, if◌then◌else◌, List, take, Ok, Err}
use Rattle.net_core.{specs.declared.demand.Demand.Demand, specs.declared.network.Network.Network, specs.declared.places.Places.Places, specs.declared.places.Places.TheVariants.{Three, Six}}
use Rattle.snd_tokens.specs.declared.amounts.NumberFault.TheVariants.{TooFine}
use Rattle.text_kit.{specs.Terms.{SpellsBy, body, file_at, EndsBefore, Read}, specs.declared.refusal.Refusal.Refusal, specs.declared.refusal.Refusal.TheVariants.{Bad, NoMemory}}
use Rattle.sndlib_reader.{specs.declared.fault.ReadKind.ReadKind, specs.declared.fault.ReadKind.TheVariants.{Header, Number}, specs.Reading.native_sections_at, specs.Spelling.{Parts, SpellsParts, header, parts_of}}

-- a whole file, read with places p: its network and demands, or its first fault by place
abbrev pub network_in : Places → List ℕ → Read ReadKind (Parts × List Demand)
network_in p bytes = file_at Header header (native_sections_at p) bytes

-- a number has too many places
abbrev pub is_too_fine : ReadKind → Bool
is_too_fine (Number TooFine) = true
is_too_fine _ = false

-- the first fault with three places is a number that has too many
abbrev pub IsTooFine : List ℕ → Type 0
IsTooFine bytes = (at : ℕ) × (network_in Three bytes ≡ Err (at, Number TooFine))

-- a file is read with three places, and with six where it is too fine for three
abbrev pub IsReadWith : Places → List ℕ → Type 0
IsReadWith Three bytes = IsTooFine bytes → ⊥
IsReadWith Six bytes = IsTooFine bytes

-- the bytes of a file spell this network and these demands, in the places with which it is read
abbrev pub Spells : List ℕ → Network → List Demand → Type 0
Spells bytes net demands = IsReadWith net.places bytes × SpellsBy header (SpellsParts net.places) bytes (parts_of net, demands)

-- of what three places give and what six give: the first, unless a number has too many places for it
abbrev pub in_its_places : {X : Type 0} → Read ReadKind X → Read ReadKind X → Read ReadKind X
in_its_places (Ok x) six = Ok x
in_its_places (Err e) six = if is_too_fine e.1 then six else Err e

-- a whole file: its network and demands, or its first fault by place
abbrev pub network_of : List ℕ → Read ReadKind (Parts × List Demand)
network_of bytes = in_its_places (network_in Three bytes) (network_in Six bytes)

-- A fault isn't too early: no bytes are spelled right that agree past the lexeme at its place, and past the number that was too fine for three
-- places where one was. It says nothing of the header and of the end.
abbrev pub IsNoEarlyFault : List ℕ → Refusal ReadKind → Type 0
IsNoEarlyFault bytes (Bad at kind) =
    (other : List ℕ) (n : ℕ) → take n bytes ≡ take n other → EndsBefore at n (body bytes)
    → ((fine : ℕ) → network_in Three bytes ≡ Err (fine, Number TooFine) → EndsBefore fine n (body bytes))
    → (net : Network) (demands : List Demand) → Spells other net demands → ⊥
IsNoEarlyFault bytes NoMemory = Unit {0}
