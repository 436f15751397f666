-- files that are refused
use Rattle.std.proofs.Common.{◌≡◌, ℕ, List, Result, Err, codes, subst}
use Rattle.plan_terms.specs.Terms.{Demand, Network}
use Rattle.sndlib_reader.{specs.Terms.{kind_word, network_of}, specs.declared.fault.ReadKind.ReadKind}
use Rattle.text_kit.{specs.Terms.{AnswersAs, Fails, Read}, specs.declared.refusal.Refusal.Refusal, specs.declared.refusal.Refusal.TheVariants.Bad}
use Rattle.outside_io.{specs.declared.status.Status.Status, specs.declared.status.Status.TheVariants.BadNetwork}
use Rattle.input_files.{specs.Inputs.{RefusesNetworkFile, SpellsNetwork}, specs.Refusals.{Refuses, refusal_line}, specs.inner.Steps.Says, specs.Stops.Stops, specs.declared.stop.Stop.Stop, proofs.Stopping.stop_map}
use Rattle.sndlib_reader.specs.NetworkFiles as networks

-- bytes that spell nothing, with their first fault
module _ {X Y K : Type 0} (Spells : List ℕ → X → Type 0) (reading : List ℕ → Result Y (ℕ × K)) (file : List ℕ) (word : K → List ℕ) (bad : Status) where
  pub file_refused : (bytes : List ℕ) (at : ℕ) (kind : K) (s : Stop) → ((x : X) → Spells bytes x → ⊥) → reading bytes ≡ Err (at, kind)
      → Stops (Says bad (refusal_line file (word kind) at)) s → Stops (λ status text. (status ≡ bad) × Refuses Spells reading file word bytes text) s
  file_refused bytes at kind s nothing first h =
      stop_map (Says bad (refusal_line file (word kind) at)) (λ status text. (status ≡ bad) × Refuses Spells reading file word bytes text) s
      (λ status text says. (says.0, record { nothing = nothing; at = at; kind = kind; first = first; printed = says.1 }))
      h

-- bytes that a reader refuses
module _ {X Y R K : Type 0} (view : Y → X) (Spells : List ℕ → X → Type 0) (reading : List ℕ → Read K R) (file : List ℕ) (word : K → List ℕ) (bad : Status) where
  abbrev refusal_of : Refusal K → Result Y (Refusal K)
  refusal_of refusal = Err refusal

  pub reading_refused : (bytes : List ℕ) (refusal : Refusal K) (at : ℕ) (kind : K) (s : Stop)
      → refusal ≡ Bad at kind → ((x : X) → Spells bytes x → AnswersAs view (refusal_of refusal) x) → Fails refusal (reading bytes)
      → Stops (Says bad (refusal_line file (word kind) at)) s
      → Stops (λ status text. (status ≡ bad) × Refuses Spells reading file word bytes text) s
  reading_refused bytes refusal at kind s is only exact h =
      file_refused Spells reading file word bad bytes at kind s
      (λ x spelled. subst (λ (r : Refusal K). AnswersAs view (refusal_of r) x) is (only x spelled))
      (subst (λ (r : Refusal K). Fails r (reading bytes)) is exact)
      h

-- bytes that spell no network
pub network_refused : (bytes : List ℕ) (at : ℕ) (kind : ReadKind) (s : Stop)
    → (network_of bytes ≡ Err (at, kind)) × ((net : Network) (demands : List Demand) → networks.Spells bytes net demands → ⊥)
    → Stops (Says BadNetwork (refusal_line (codes "network") (kind_word kind) at)) s → Stops (λ status text. (status ≡ BadNetwork) × RefusesNetworkFile bytes text) s
network_refused bytes at kind s refused h =
    file_refused SpellsNetwork network_of (codes "network") kind_word BadNetwork bytes at kind s (λ read spelled. refused.1 read.0 read.1 spelled) refused.0 h
