-- files that are refused with a message
use Rattle.std.proofs.Common.{◌≡◌, ℕ, List, Result, Err, codes, length, min, refl, subst, sym}
use Rattle.plan_terms.specs.Terms.{Demand, Network}
use Rattle.sndlib_reader.{specs.Terms.{kind_word, network_of}, specs.declared.fault.ReadKind.ReadKind}
use Rattle.text_kit.{specs.Terms.{AnswersAs, Fails, Read}, specs.declared.refusal.Refusal.Refusal, specs.declared.refusal.Refusal.TheVariants.Bad}
use Rattle.input_files.specs.Terms.{SpellsNetwork, refusal_line}
use Rattle.outside_io.{specs.declared.status.Status.Status, specs.declared.status.Status.TheVariants.BadNetwork}
use Rattle.fault_messages.specs.Terms.{network_message, AreNetworkNotes}
use Rattle.people_files.{specs.Endings.Halts, specs.Messages.{ShowsFault, ShowsNetworkFault, ShowsPlace}, specs.declared.stop.Halt.Halt, proofs.Causing.halt_map}
use Rattle.sndlib_reader.specs.NetworkFiles as networks

-- notes that were made for a place, and are handed on as a slice
pub notes_at : {K : Type 0} (AreNotes : List ℕ → ℕ → K → List ℕ → Type 0) (bytes : List ℕ) (at place : ℕ) (kind : K) (made notes : List ℕ)
    → place ≡ min at (length bytes) → notes ≡ made → AreNotes bytes place kind made → AreNotes bytes (min at (length bytes)) kind notes
notes_at AreNotes bytes at place kind made notes is same noted =
    subst (λ n. AreNotes bytes (min at (length bytes)) kind n) (sym same) (subst (λ k. AreNotes bytes k kind made) is noted)

-- bytes that spell nothing, with their first fault and what is said of its kind
module _ {X Y K : Type 0} (Spells : List ℕ → X → Type 0) (reading : List ℕ → Result Y (ℕ × K)) (file : List ℕ) (word : K → List ℕ) (words : K → List ℕ × List ℕ) (AreNotes : List ℕ → ℕ → K → List ℕ → Type 0) (bad : Status) where
  pub fault_shown : (name bytes : List ℕ) (at : ℕ) (kind : K) (wrong help notes : List ℕ) (h : Halt) → ((x : X) → Spells bytes x → ⊥) → reading bytes ≡ Err (at, kind)
      → (wrong ≡ (words kind).0) × (help ≡ (words kind).1)
      → AreNotes bytes (min at (length bytes)) kind notes
      → Halts (λ s message. (s ≡ bad) × ShowsPlace name bytes at (wrong, help) notes (refusal_line file (word kind) at) message) h
      → Halts (λ s message. (s ≡ bad) × ShowsFault Spells reading file word words AreNotes name bytes message) h
  fault_shown name bytes at kind wrong help notes h nothing first said noted =
      let line = refusal_line file (word kind) at in
      halt_map (λ s message. (s ≡ bad) × ShowsPlace name bytes at (wrong, help) notes line message)
      (λ s message. (s ≡ bad) × ShowsFault Spells reading file word words AreNotes name bytes message) h
      (λ s message shown.
      let once : ShowsPlace name bytes at ((words kind).0, help) notes line message = subst (λ w. ShowsPlace name bytes at (w, help) notes line message) said.0 shown.1 in
      let both : ShowsPlace name bytes at (words kind) notes line message = subst (λ w. ShowsPlace name bytes at ((words kind).0, w) notes line message) said.1 once in
      (shown.0, (line, record { nothing = nothing; at = at; kind = kind; first = first; printed = refl }, notes, noted, both)))

-- bytes that a reader refuses
module _ {X Y R K : Type 0} (view : Y → X) (Spells : List ℕ → X → Type 0) (reading : List ℕ → Read K R) (file : List ℕ) (word : K → List ℕ) (words : K → List ℕ × List ℕ) (AreNotes : List ℕ → ℕ → K → List ℕ → Type 0) (bad : Status) where
  abbrev refusal_of : Refusal K → Result Y (Refusal K)
  refusal_of refusal = Err refusal

  pub reading_shown : (name bytes : List ℕ) (refusal : Refusal K) (at : ℕ) (kind : K) (wrong help notes : List ℕ) (h : Halt)
      → refusal ≡ Bad at kind → ((x : X) → Spells bytes x → AnswersAs view (refusal_of refusal) x) → Fails refusal (reading bytes)
      → (wrong ≡ (words kind).0) × (help ≡ (words kind).1)
      → AreNotes bytes (min at (length bytes)) kind notes
      → Halts (λ s message. (s ≡ bad) × ShowsPlace name bytes at (wrong, help) notes (refusal_line file (word kind) at) message) h
      → Halts (λ s message. (s ≡ bad) × ShowsFault Spells reading file word words AreNotes name bytes message) h
  reading_shown name bytes refusal at kind wrong help notes h is only exact said noted =
      fault_shown Spells reading file word words AreNotes bad name bytes at kind wrong help notes h
      (λ x spelled. subst (λ (r : Refusal K). AnswersAs view (refusal_of r) x) is (only x spelled))
      (subst (λ (r : Refusal K). Fails r (reading bytes)) is exact)
      said noted

-- bytes that spell no network
pub network_shown : (name bytes : List ℕ) (at : ℕ) (kind : ReadKind) (wrong help notes : List ℕ) (h : Halt)
    → (network_of bytes ≡ Err (at, kind)) × ((net : Network) (demands : List Demand) → networks.Spells bytes net demands → ⊥)
    → (wrong ≡ (network_message kind).0) × (help ≡ (network_message kind).1)
    → AreNetworkNotes bytes (min at (length bytes)) kind notes
    → Halts (λ s message. (s ≡ BadNetwork) × ShowsPlace name bytes at (wrong, help) notes (refusal_line (codes "network") (kind_word kind) at) message) h
    → Halts (λ s message. (s ≡ BadNetwork) × ShowsNetworkFault name bytes message) h
network_shown name bytes at kind wrong help notes h refused said noted =
    fault_shown SpellsNetwork network_of (codes "network") kind_word network_message AreNetworkNotes BadNetwork name bytes at kind wrong help notes h
    (λ read spelled. refused.1 read.0 read.1 spelled) refused.0 said noted
