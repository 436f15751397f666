-- what is said of a file that ends a run
use Rattle.std.specs.Prelude.{◌≡◌, ℕ, ◌⊎◌, min, List, [], ◌++◌, Option, Result, codes, length}
use Rattle.plan_terms.specs.Terms.{Link}
use Rattle.outside_io.{specs.Outside.Files, specs.declared.shelf.ReadFault.ReadFault, specs.declared.shelf.ReadFault.TheVariants.{Folder, NoRight, Other}, specs.declared.status.Status.Status, specs.declared.status.Status.TheVariants.{NoFile, TooLong}}
use Rattle.sndlib_reader.specs.Terms.{kind_word, network_of}
use Rattle.model_reader.specs.Terms.{SpellsFailures, failures_of, failures_word, model_word, SpellsModel, model_of}
use Rattle.fault_messages.specs.Terms.{failures_message, model_message, network_message, AreFailuresNotes, AreModelNotes, AreNetworkNotes}
use Rattle.fault_texts.specs.FaultTexts.{IsFaultText}
use Rattle.input_files.specs.Terms.{Fetched, SpellsNetwork, StopsAtFetch, Refuses}

-- what is said of a file that can't be read, by what the shelf knows of it
abbrev pub fault_words : ReadFault → List ℕ
fault_words Folder = codes ": it is a folder, not a file\n"
fault_words NoRight = codes ": there is no right to read it\n"
fault_words Other = codes ": reading failed; the disk may be damaged\n"

-- what is said of a file that can't be fetched, before the planner's line of it
abbrev pub unfetched_words : List ℕ → ReadFault → Status → List ℕ
unfetched_words name fault NoFile = name ++ codes ": there is no such file\n"
unfetched_words name fault TooLong = name ++ codes ": the file is too long; a report has at most 256 MiB, and any other file 16 MiB\n"
unfetched_words name fault _ = name ++ fault_words fault

-- the file can't be fetched, and the message says so and ends in the planner's line of it
abbrev pub FailsAtFetch : Option Files → ℕ → List ℕ → Status → List ℕ → Type 0
FailsAtFetch files limit name status message =
    (line : List ℕ) × StopsAtFetch files limit name status line × (fault : ReadFault) × (message ≡ unfetched_words name fault status ++ line)

-- The message shows a byte of a file with its line, by these words what is wrong there and what helps, and ends in these notes and this line.
-- Where the place is beyond the bytes, it shows their end.
pub record ShowsPlace (name bytes : List ℕ) (at : ℕ) (words : List ℕ × List ℕ) (notes line message : List ℕ) : Type 0 where
  pub fault : List ℕ
  pub shown : IsFaultText name bytes (min at (length bytes)) words.0 words.1 fault
  pub printed : message ≡ fault ++ notes ++ line

-- The bytes spell nothing in their format, and the message shows the place of their first fault, with the words of its kind and what is known
-- besides, and ends in the planner's line of it.
abbrev pub ShowsFault : {X Y K : Type 0} → (List ℕ → X → Type 0) → (List ℕ → Result Y (ℕ × K))
    → List ℕ → (K → List ℕ) → (K → List ℕ × List ℕ) → (List ℕ → ℕ → K → List ℕ → Type 0) → List ℕ → List ℕ → List ℕ → Type 0
ShowsFault Spells reading file word words AreNotes name bytes message =
    (line : List ℕ) × (refused : Refuses Spells reading file word bytes line)
    × (notes : List ℕ) × AreNotes bytes (min refused.at (length bytes)) refused.kind notes
    × ShowsPlace name bytes refused.at (words refused.kind) notes line message

-- nothing is known besides
abbrev pub HasNoNotes : {K : Type 0} → List ℕ → ℕ → K → List ℕ → Type 0
HasNoNotes bytes at kind notes = notes ≡ []

-- A file ends the run with a message: it can't be fetched, or its bytes are refused.
abbrev pub FailsAtFile : Option Files → ℕ → List ℕ → Status → (List ℕ → List ℕ → Type 0) → Status → List ℕ → Type 0
FailsAtFile files limit name bad Shown status message =
    FailsAtFetch files limit name status message ⊎ ((status ≡ bad) × Fetched files limit name Shown message)

-- the bytes of a network's file are refused
abbrev pub ShowsNetworkFault : List ℕ → List ℕ → List ℕ → Type 0
ShowsNetworkFault = ShowsFault SpellsNetwork network_of (codes "network") kind_word network_message AreNetworkNotes

-- the bytes of a model's file are refused
abbrev pub ShowsModelFault : List ℕ → List ℕ → List ℕ → Type 0
ShowsModelFault = ShowsFault SpellsModel model_of (codes "model") model_word model_message AreModelNotes

-- the bytes of a failure list of these links are refused
abbrev pub ShowsFailuresFault : List Link → List ℕ → List ℕ → List ℕ → Type 0
ShowsFailuresFault links =
    ShowsFault (SpellsFailures links) (failures_of links) (codes "failures") failures_word failures_message (AreFailuresNotes links)

-- what is said of a failure list beside a model without survivability, before the planner's line of it
abbrev pub unused_words : List ℕ → List ℕ
unused_words name =
    name ++ codes ": the model asks for no survivability, so this list isn't used\n"
    ++ codes "  leave it out, or give the model SURVIVABILITY_MODEL = UNRESTRICTED_FLOW_RECONFIGURATION\n"
