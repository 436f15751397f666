-- Whole files with the places with which they are read: what is read is spelled, nothing else is, and no fault is too early.
use Rattle.std.proofs.Common.{◌≡◌, ℕ, Bool, true, false, cond, List, take, Ok, Err, IfOk, IfErr, refl, sym, ap, subst, ◌∙◌}
use Rattle.net_core.{proofs.Library.false≢true, specs.declared.demand.Demand.Demand, specs.declared.network.Network.Network, specs.declared.places.Places.Places, specs.declared.places.Places.TheVariants.{Three, Six}}
use Rattle.snd_tokens.specs.declared.amounts.NumberFault.TheVariants.{NotANumber, TooFine, TooLarge}
use Rattle.text_kit.{specs.Terms.{ReadsAllAs, SpellsBy, body, EndsBefore, Read}, specs.declared.refusal.Refusal.TheVariants.{Bad, NoMemory}, proofs.Lemmas.{fault_kept, found_spelled, only_spelled, spelled_faultless, err_parts}}
use Rattle.sndlib_reader.{specs.declared.fault.ReadKind.ReadKind, specs.declared.fault.ReadKind.TheVariants.{Header, Section, Token, Ended, Limit, Number, UnknownName, DoubleName, SelfLink, SelfDemand, ZeroModule, FixedLink}, specs.NetworkFiles.{IsNoEarlyFault, IsReadWith, Spells, in_its_places, is_too_fine, network_in, network_of}, specs.Reading.native_sections_at, specs.Spelling.{Parts, SpellsParts, header, parts_of}, proofs.Online.sections_online, proofs.Whole.{Answer, seen, sections_spelled}}

abbrev Given : Type 0
Given = Read ReadKind (Parts × List Demand)

-- ---- the places

fine_is : (k : ReadKind) → is_too_fine k ≡ true → k ≡ Number TooFine
fine_is (Number TooFine) e = refl
fine_is (Number NotANumber) e = absurd cc
fine_is (Number TooLarge) e = absurd cc
fine_is Header e = absurd cc
fine_is Section e = absurd cc
fine_is Token e = absurd cc
fine_is Ended e = absurd cc
fine_is (Limit l) e = absurd cc
fine_is UnknownName e = absurd cc
fine_is DoubleName e = absurd cc
fine_is SelfLink e = absurd cc
fine_is SelfDemand e = absurd cc
fine_is ZeroModule e = absurd cc
fine_is FixedLink e = absurd cc

-- one fault of a reading
one_fault : (q : Given) (a b : ℕ) (j k : ReadKind) → q ≡ Err (a, j) → q ≡ Err (b, k) → j ≡ k
one_fault q a b j k first second =
    (err_parts {X = Parts × List Demand} a b j k (sym first ∙ second)).1

-- the places with which a file is read, and what it gives with them
abbrev ReadsIts : List ℕ → Places → Type 0
ReadsIts bytes p = IsReadWith p bytes × (network_of bytes ≡ network_in p bytes)

its_places : (bytes : List ℕ) → (p : Places) × ReadsIts bytes p
its_places bytes = by (network_in Three bytes) refl
  where
    by : (three : Given) → network_in Three bytes ≡ three → (p : Places) × ReadsIts bytes p
    by (Ok x) e = (Three, ((λ t. absurd (let bad : Ok x ≡ Err (t.0, Number TooFine) = sym e ∙ t.1 in cc)), ap (λ (q : Given). in_its_places q (network_in Six bytes)) e ∙ sym e))
    by (Err d) e =
        let given : network_of bytes ≡ cond (is_too_fine d.1) (network_in Six bytes) (Err d) = ap (λ (q : Given). in_its_places q (network_in Six bytes)) e in
        elim (is_too_fine d.1) as (λ v. is_too_fine d.1 ≡ v → (p : Places) × ReadsIts bytes p) [
          | true ↦ λ k. (Six, ((d.0, e ∙ ap (λ (kind : ReadKind). Err (d.0, kind)) (fine_is d.1 k)), given ∙ ap (λ (b : Bool). cond b (network_in Six bytes) (Err d)) k))
          | false ↦ λ k. (
            Three,
            (
              (λ t. absurd (false≢true (sym k ∙ ap is_too_fine (one_fault (network_in Three bytes) d.0 t.0 d.1 (Number TooFine) e t.1)))),
              given ∙ (ap (λ (b : Bool). cond b (network_in Six bytes) (Err d)) k ∙ sym e),
            ),
          )
        ] refl

-- a file is read with one number of places alone
one_places : (p q : Places) (bytes : List ℕ) → IsReadWith p bytes → IsReadWith q bytes → p ≡ q
one_places Three Three bytes a b = refl
one_places Three Six bytes a b = absurd (a b)
one_places Six Three bytes a b = absurd (b a)
one_places Six Six bytes a b = refl

-- the places of what is spelled are those with which the file is read
spelled_in : (p : Places) (bytes : List ℕ) (net : Network) (demands : List Demand) → IsReadWith p bytes → Spells bytes net demands → SpellsBy header (SpellsParts p) bytes (parts_of net, demands)
spelled_in p bytes net demands reads s = subst (λ (q : Places). SpellsBy header (SpellsParts q) bytes (parts_of net, demands)) (one_places net.places p bytes s.0 reads) s.1

-- what is spelled with three places isn't too fine
pub three_spelled : (bytes : List ℕ) (x : Parts × List Demand) → SpellsBy header (SpellsParts Three) bytes x → IsReadWith Three bytes
three_spelled bytes x s = λ t. spelled_faultless Header header (native_sections_at Three) (SpellsParts Three) (sections_spelled Three) bytes x s t.0 (Number TooFine) t.1

-- ---- what was answered

-- the file as its places give it
read_in : (bytes : List ℕ) (r : Answer) (p : Places) → network_of bytes ≡ network_in p bytes → ReadsAllAs seen r (network_of bytes) → ReadsAllAs seen r (network_in p bytes)
read_in bytes r p is h = subst (λ (q : Given). ReadsAllAs seen r q) is h

pub is_spelled : (bytes : List ℕ) (r : Answer) → ReadsAllAs seen r (network_of bytes) → IfOk r (λ x. Spells bytes x.0 x.1)
is_spelled bytes (Ok z) h =
    let i = its_places bytes in
    let p = i.0 in
    let s : SpellsBy header (SpellsParts p) bytes (seen z) = found_spelled Header header (native_sections_at p) (SpellsParts p) (sections_spelled p) seen bytes (Ok z) (read_in bytes (Ok z) p i.1.1 h) in
    subst (λ (q : Places). IsReadWith q bytes × SpellsBy header (SpellsParts q) bytes (seen z)) s.1.places_are (i.1.0, s)
is_spelled bytes (Err e) h = tt

pub is_only : (bytes : List ℕ) (r : Answer) → ReadsAllAs seen r (network_of bytes)
    → IfOk r (λ x. (net : Network) (demands : List Demand) → Spells bytes net demands → (net.nodes ≡ x.0.nodes) × (net.links ≡ x.0.links) × (net.notes ≡ x.0.notes) × (net.places ≡ x.0.places) × (demands ≡ x.1))
is_only bytes (Ok x) h = λ net demands s.
    let i = its_places bytes in
    let p = i.0 in
    let same : seen x ≡ (parts_of net, demands) = only_spelled Header header (native_sections_at p) (SpellsParts p) (sections_spelled p) seen bytes (Ok x) (read_in bytes (Ok x) p i.1.1 h) (parts_of net, demands) (spelled_in p bytes net demands i.1.0 s) in
    (sym (ap (λ (y : Parts × List Demand). y.0.nodes) same), sym (ap (λ (y : Parts × List Demand). y.0.links) same), sym (ap (λ (y : Parts × List Demand). y.0.notes) same), sym (ap (λ (y : Parts × List Demand). y.0.places) same), sym (ap (λ (y : Parts × List Demand). y.1) same))
is_only bytes (Err e) h = tt

pub first_fault : (bytes : List ℕ) (r : Answer) → ReadsAllAs seen r (network_of bytes) → (at : ℕ) (kind : ReadKind) → r ≡ Err (Bad at kind) → (network_of bytes ≡ Err (at, kind)) × ((net : Network) (demands : List Demand) → Spells bytes net demands → ⊥)
first_fault bytes r h at kind e =
    let f : ReadsAllAs seen (Err (Bad at kind)) (network_of bytes) = subst (λ (x : Answer). ReadsAllAs seen x (network_of bytes)) e h in
    let i = its_places bytes in
    let p = i.0 in
    (f, λ net demands s. spelled_faultless Header header (native_sections_at p) (SpellsParts p) (sections_spelled p) bytes (parts_of net, demands) (spelled_in p bytes net demands i.1.0 s) at kind (sym i.1.1 ∙ f))

-- ---- no fault is too early

-- bytes that agree past a fault have it, read with these places
same_fault_in : (p : Places) (bytes : List ℕ) (at : ℕ) (kind : ReadKind) (other : List ℕ) (n : ℕ) → take n bytes ≡ take n other → network_in p bytes ≡ Err (at, kind) → EndsBefore at n (body bytes) → network_in p other ≡ Err (at, kind)
same_fault_in p bytes at kind other n same e ends = fault_kept Header header (native_sections_at p) (sections_online p) bytes at kind e other n same ends

-- bytes that agree past a fault, and past each number that is too fine, are read with the places of these
same_places : (p : Places) (bytes : List ℕ) (at : ℕ) (kind : ReadKind) (other : List ℕ) (n : ℕ) → take n bytes ≡ take n other → IsReadWith p bytes → network_in p bytes ≡ Err (at, kind) → EndsBefore at n (body bytes)
    → ((fine : ℕ) → network_in Three bytes ≡ Err (fine, Number TooFine) → EndsBefore fine n (body bytes)) → IsReadWith p other
same_places Three bytes at kind other n same reads e ends past = λ t.
    let there = same_fault_in Three bytes at kind other n same e ends in
    reads (at, e ∙ ap (λ (k : ReadKind). Err (at, k)) (one_fault (network_in Three other) at t.0 kind (Number TooFine) there t.1))
same_places Six bytes at kind other n same reads e ends past = (reads.0, same_fault_in Three bytes reads.0 (Number TooFine) other n same reads.1 (past reads.0 reads.1))

pub not_early : (bytes : List ℕ) (r : Answer) → ReadsAllAs seen r (network_of bytes) → IfErr r (IsNoEarlyFault bytes)
not_early bytes (Ok x) h = tt
not_early bytes (Err (Bad at kind)) h = λ other n same ends past net demands s.
    let i = its_places bytes in
    let p = i.0 in
    let e : network_in p bytes ≡ Err (at, kind) = sym i.1.1 ∙ h in
    let reads = same_places p bytes at kind other n same i.1.0 e ends past in
    spelled_faultless Header header (native_sections_at p) (SpellsParts p) (sections_spelled p) other (parts_of net, demands) (spelled_in p other net demands reads s) at kind (same_fault_in p bytes at kind other n same e ends)
not_early bytes (Err NoMemory) h = tt
