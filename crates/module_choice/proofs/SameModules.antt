-- links with the same modules, covered from one table
use Rattle.std.{proofs.Common.{◌≡◌, ◌≢◌, ℕ, zero, suc, ◌+◌, ◌-◌, ◌<◌, ◌==◌, ◌&&◌, ◌⊎◌, ◌^◌, List, [], ◌∷◌, All, Err, IfOk, Ok, Result, Some, ap, arith, get_or, inl, inr, length, refl, set, slice_get, slice_index, subst, sym, ◌∙◌, ⊎_elim, Decides}, proofs.lemmas.Bool.Decides.Decides-like}
use Rattle.net_core.proofs.Library.{cases_eq, get_or_default_zero, slice_get-get_or, Decides-and, Decides-eqb}
use Rattle.plan_terms.specs.Terms.{Link, Module}
use Rattle.module_choice.{specs.Coverings.{CoverNeeds, IsCovered}, specs.inner.Cheapest.AreCheapest, specs.inner.Routes.{AlikeAreCovered, AreCovered, HasEarlier}, proofs.Setups.cheapest_covered}

-- two modules are one where their numbers are
pub module_decides : (a b : Module) → Decides ((a.capacity == b.capacity) && (a.cost == b.cost)) (a ≡ b)
module_decides a b = Decides-like ((a.capacity == b.capacity) && (a.cost == b.cost))
    (λ h. ap (λ x. record { capacity = x; cost = a.cost }) h.0 ∙ ap (λ x. record { capacity = b.capacity; cost = x }) h.1)
    (λ h. (ap (λ (m : Module). m.capacity) h, ap (λ (m : Module). m.cost) h))
    (Decides-and (a.capacity == b.capacity) (a.cost == b.cost) (Decides-eqb a.capacity b.capacity) (Decides-eqb a.cost b.cost))

set_cases : {X : Type 0} (xs : List X) (e i : ℕ) (v x : X) → slice_get (set xs e v) i ≡ Some x → ((i ≡ e) × (v ≡ x)) ⊎ ((i ≢ e) × (slice_get xs i ≡ Some x))
set_cases [] e i v x at = absurd (cc)
set_cases (y ∷ xs) zero zero v x at = inl (refl, cc at)
set_cases (y ∷ xs) zero (suc i) v x at = inr (λ same. omega (arith, same), at)
set_cases (y ∷ xs) (suc e) zero v x at = inr (λ same. omega (arith, same), at)
set_cases (y ∷ xs) (suc e) (suc i) v x at = ⊎_elim
    (λ same. inl (ap suc same.0, same.1))
    (λ other. inr (λ same. other.0 (omega (arith, same)), other.1))
    (set_cases xs e i v x at)

-- of the first e links those that have the modules are covered
abbrev pub TheseAreCovered : List Link → List ℕ → List (List ℕ) → List Module → ℕ → Type 0
TheseAreCovered links needs counts modules e =
    (i : ℕ) (k : Link) (c : List ℕ) → i < e → slice_get links i ≡ Some k → slice_get counts i ≡ Some c → k.modules ≡ modules → AreCheapest k.modules (get_or needs i 0) c

-- after link e has got counts that cover it, each link is covered or has the counts that it had
set_covered : (links : List Link) (needs : List ℕ) (counts : List (List ℕ)) (e i : ℕ) (l k : Link) (c d : List ℕ) → slice_get links e ≡ Some l → AreCheapest l.modules (get_or needs e 0) c → slice_get links i ≡ Some k → slice_get (set counts e c) i ≡ Some d → AreCheapest k.modules (get_or needs i 0) d ⊎ ((i ≢ e) × (slice_get counts i ≡ Some d))
set_covered links needs counts e i l k c d at covered is got = ⊎_elim
    (λ here. let one : l ≡ k = cc (at, subst (λ j. slice_get links j ≡ Some k) here.0 is) in
    inl (subst (λ j. AreCheapest k.modules (get_or needs j 0) d) (sym here.0) (subst (AreCheapest k.modules (get_or needs e 0)) here.1 (subst (λ (x : Link). AreCheapest x.modules (get_or needs e 0) c) one covered))))
    (λ other. inr other)
    (set_cases counts e i c d got)

-- a link that is covered keeps what is covered
pub covered_set : (links : List Link) (needs : List ℕ) (counts : List (List ℕ)) (e : ℕ) (l : Link) (c : List ℕ) (modules : List Module) → slice_get links e ≡ Some l → AreCheapest l.modules (get_or needs e 0) c → AlikeAreCovered links needs counts modules → AlikeAreCovered links needs (set counts e c) modules
covered_set links needs counts e l c modules at covered all i k d is got alike =
    ⊎_elim (λ here. here) (λ other. all i k d is other.1 alike) (set_covered links needs counts e i l k c d at covered is got)

-- one link more, which has the modules
pub these_set : (links : List Link) (needs : List ℕ) (counts : List (List ℕ)) (e : ℕ) (l : Link) (c : List ℕ) (modules : List Module) → slice_get links e ≡ Some l → AreCheapest l.modules (get_or needs e 0) c → TheseAreCovered links needs counts modules e → TheseAreCovered links needs (set counts e c) modules (e + 1)
these_set links needs counts e l c modules at covered these i k d lt is got alike =
    ⊎_elim (λ here. here) (λ other. these i k d (omega (arith, lt, other.0)) is other.1 alike) (set_covered links needs counts e i l k c d at covered is got)

-- one link more, which has other modules
pub these_skip : (links : List Link) (needs : List ℕ) (counts : List (List ℕ)) (e : ℕ) (l : Link) (modules : List Module) → slice_get links e ≡ Some l → l.modules ≢ modules → TheseAreCovered links needs counts modules e → TheseAreCovered links needs counts modules (e + 1)
these_skip links needs counts e l modules at differs these i k d lt is got alike = ⊎_elim
    (λ here. let one : l ≡ k = cc (at, subst (λ j. slice_get links j ≡ Some k) here is) in
    absurd (differs (ap (λ (x : Link). x.modules) one ∙ alike)))
    (λ other. these i k d (omega (arith, lt, other)) is got alike)
    (cases_eq i e)

-- the links that have the modules of one of the first e are covered
abbrev pub AllCovered : List Link → List ℕ → List (List ℕ) → ℕ → Type 0
AllCovered links needs counts e = (i : ℕ) (k : Link) → i < e → slice_get links i ≡ Some k → AlikeAreCovered links needs counts k.modules

-- one link more, whose modules are new
pub covered_next : (links : List Link) (needs : List ℕ) (old new : List (List ℕ)) (e : ℕ) (l : Link) → slice_get links e ≡ Some l → AlikeAreCovered links needs new l.modules → ((ms : List Module) → AlikeAreCovered links needs old ms → AlikeAreCovered links needs new ms) → AllCovered links needs old e → AllCovered links needs new (e + 1)
covered_next links needs old new e l at these others all i k lt is = ⊎_elim
    (λ here. let one : l ≡ k = cc (at, subst (λ j. slice_get links j ≡ Some k) here is) in
    subst (λ (x : Link). AlikeAreCovered links needs new x.modules) one these)
    (λ other. others k.modules (all i k (omega (arith, lt, other)) is))
    (cases_eq i e)

-- one link more, whose modules an earlier one has
pub covered_again : (links : List Link) (needs : List ℕ) (counts : List (List ℕ)) (e : ℕ) → HasEarlier links e → AllCovered links needs counts e → AllCovered links needs counts (e + 1)
covered_again links needs counts e has all i k lt is = ⊎_elim
    (λ here. let one : has.link ≡ k = cc (has.is_link, subst (λ j. slice_get links j ≡ Some k) here is) in
    subst (AlikeAreCovered links needs counts) (has.alike ∙ ap (λ (x : Link). x.modules) one) (all has.at has.earlier has.before has.is))
    (λ other. all i k (omega (arith, lt, other)) is)
    (cases_eq i e)

abbrev default : Link
default = record { name = []; a = record { 0 = 0 }; b = record { 0 = 0 }; fixed = 0; setup = 0; modules = [] }

-- counts of which all that have the same modules cover their needs cover each need
pub needs_covered : (links : List Link) (needs : List ℕ) (counts : List (List ℕ)) → length counts ≡ length links → ((e : ℕ) (l : Link) → slice_get links e ≡ Some l → AlikeAreCovered links needs counts l.modules) → CoverNeeds links needs counts
needs_covered links needs counts count all = record { long = count; each = λ e l c at got. cheapest_covered l (slice_index needs e) c (all e l at e l c at got refl) }

-- counts that cover each need cover each load less the fixed capacity
pub loads_covered : (links : List Link) (needs peaks : List ℕ) (counts : List (List ℕ)) → ((e : ℕ) (l : Link) → slice_get links e ≡ Some l → get_or needs e 0 ≡ get_or peaks e 0 - l.fixed) → CoverNeeds links needs counts → AreCovered links (slice_index peaks) counts
loads_covered links needs peaks counts each all =
    let here : (e : ℕ) (l : Link) (c : List ℕ) → slice_get links e ≡ Some l → slice_get counts e ≡ Some c → IsCovered l (get_or peaks e 0 - l.fixed) c =
    λ e l c at got. subst (λ n. IsCovered l n c) (each e l at) (all.each e l c at got) in
    record {
      covers = record { long = all.long; each = λ e l c at got. (here e l c at got).covers };
      few = λ e d lt.
          let link = slice_get-get_or links e default (omega (arith, lt, all.long)) in
          (here e (get_or links e default) (get_or counts e d) link (slice_get-get_or counts e d lt)).few;
      small = λ e l c at got. (here e l c at got).narrow;
    }

-- the counts that a call answers cover each load less the fixed capacity
pub all_loads_covered : {E : Type 0} (links : List Link) (needs peaks : List ℕ) (answer : Result (List (List ℕ)) E) → ((e : ℕ) (l : Link) → slice_get links e ≡ Some l → get_or needs e 0 ≡ get_or peaks e 0 - l.fixed) → IfOk answer (CoverNeeds links needs) → IfOk answer (AreCovered links (slice_index peaks))
all_loads_covered links needs peaks (Ok counts) each all = loads_covered links needs peaks counts each all
all_loads_covered links needs peaks (Err e) each all = tt

-- needs are as small as the loads
pub needs_small : (links : List Link) (peaks needs : List ℕ) → length needs ≡ length links → ((e : ℕ) (l : Link) → slice_get links e ≡ Some l → get_or needs e 0 ≡ get_or peaks e 0 - l.fixed) → length peaks ≡ length links → All (λ n. n < 2 ^ 44) peaks → All (λ n. n < 2 ^ 44) needs
needs_small links peaks needs count each size small e d lt =
    let link = slice_get-get_or links e default (omega (arith, lt, count)) in
    omega (arith, get_or_default_zero needs e d lt, each e (get_or links e default) link, small e 0 (omega (arith, lt, count, size)))
