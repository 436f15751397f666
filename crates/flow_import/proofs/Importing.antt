-- What loads tell of the flows of a state, and one state after another.
use Rattle.std.{proofs.Common.{◌≡◌, ℕ, ◌+◌, ◌<◌, ◌≤◌, ◌++◌, inr, List, [], ◌∷◌, length, get_or, sym, subst, arith, ⊎_elim, All}, proofs.lemmas.List.length_push}
use Rattle.net_core.proofs.Library.{cases_eq, cases_lt, get_or_append_left, get_or_push, slice_get_within, ∥∥₁_elim, props}
use Rattle.plan_terms.specs.Terms.{IsNetwork, Case, graph_in, Graph, Survives, Demand, Link, Routing}
use Rattle.flow_file.{specs.declared.flow.LinkFlow.LinkFlow, specs.FlowFiles.{AreLinkFlows, IsLinkFlow}}
use Rattle.flow_import.{specs.declared.fault.ImportFault.ImportFault, specs.declared.fault.ImportFault.TheVariants.{Dead, Unbalanced, Overloaded, NoMemory}, specs.Imports.{AreAlive, FitInto, IsFirstExceeded, IsImportFault, IsImportedState, IsStateFault, flows_in, no_routing}, specs.inner.Steps.{AreImportedTo, AreLoads, IsFirstAbove, IsOffFault}, proofs.Parts.load_past}

-- ---- flows in form

pub known_links : (links : List Link) (demands : List Demand) (flows : List LinkFlow) → AreLinkFlows links demands flows → All (λ f. f.arc.link.0 < length links) flows
known_links links demands flows are i d lt = let f = get_or flows i d in let is : IsLinkFlow links demands f = are.1 i d lt in slice_get_within links f.arc.link.0 is.arc.link is.arc.at

pub known_demands : (links : List Link) (demands : List Demand) (flows : List LinkFlow) → AreLinkFlows links demands flows → All (λ f. f.demand < length demands) flows
known_demands links demands flows are i d lt = (are.1 i d lt).demand

-- ---- loads

module _ (n : ℕ) (flows : List LinkFlow) (loads : List ℕ) (known : All (λ f. f.arc.link.0 < n) flows) (are : AreLoads n flows loads) where
  pub all_alive : (g : Graph) → ((e : ℕ) → e < length loads → 0 < get_or loads e 0 → Survives g e) → AreAlive g flows
  all_alive g alive = λ e some. ⊎_elim
      (λ (lt : e < n). alive e (omega (arith, lt, are.long)) (omega (arith, some, are.each e lt)))
      (λ (past : n ≤ e). absurd (omega (arith, some, load_past n e flows past known)))
      (cases_lt e n)

  pub all_fit : (caps : List ℕ) → ((e : ℕ) → e < length loads → get_or loads e 0 ≤ get_or caps e 0) → FitInto caps flows
  all_fit caps fit = λ e. ⊎_elim
      (λ (lt : e < n). omega (arith, fit e (omega (arith, lt, are.long)), are.each e lt))
      (λ (past : n ≤ e). omega (arith, load_past n e flows past known))
      (cases_lt e n)

  pub exceeded_first : (caps : List ℕ) (e : ℕ) → length caps ≡ n → IsFirstAbove loads caps e → IsFirstExceeded caps flows e
  exceeded_first caps e same f =
      let within : e < n = omega (arith, f.place, are.long) in
      record {
        link = omega (arith, within, same);
        over = omega (arith, f.over, are.each e within);
        before = λ i lt. omega (arith, f.before i lt, are.each i (omega (arith, lt, within)));
      }

-- ---- states

module _ (p : Case) (caps : List ℕ) (all : List (List LinkFlow)) where
  pub imported_more : (n : ℕ) (routings : List Routing) (r : Routing) → n < length all → AreImportedTo p caps all n routings → IsImportedState p caps n (flows_in all n) r → AreImportedTo p caps all (n + 1) (routings ++ r ∷ [])
  imported_more n routings r lt before is = record {
    some = omega (arith, lt);
    long = omega (arith, length_push routings r, before.long);
    each = λ s below. ⊎_elim
        (λ (same : s ≡ n).
        let last : get_or (routings ++ r ∷ []) n no_routing ≡ r = get_or_push routings r no_routing n before.long in
        subst (λ (i : ℕ). IsImportedState p caps i (flows_in all i) (get_or (routings ++ r ∷ []) i no_routing)) (sym same)
        (subst (λ (x : Routing). IsImportedState p caps n (flows_in all n) x) (sym last) is))
        (λ other.
        let within : s < n = omega (arith, below, other) in
        subst (λ (x : Routing). IsImportedState p caps s (flows_in all s) x) (sym (get_or_append_left routings (r ∷ []) no_routing s (omega (arith, within, before.long))))
        (before.each s within))
        (cases_eq s n);
  }

  -- the fault of a state after those that have none
  pub fault_after : (n : ℕ) (routings : List Routing) (f : ImportFault) → n ≤ length p.listed → AreImportedTo p caps all n routings → IsStateFault p caps n (flows_in all n) f → IsImportFault p caps all f
  fault_after n routings f known before is = inr (record { state = n; listed_state = known; before = λ s lt. (before.each s lt).sound; is = is })

-- ---- faults of a state

module _ (p : Case) (caps : List ℕ) (s : ℕ) (flows : List LinkFlow) where
  pub off_state : AreAlive (graph_in p s) flows → (f : ImportFault) → IsOffFault p s flows f → IsStateFault p caps s flows f
  off_state alive (Dead t e) is = absurd is
  off_state alive (Unbalanced t k n) is = (is.0, alive, is.1)
  off_state alive (Overloaded t e) is = absurd is
  off_state alive NoMemory is = tt

-- ---- a network

pub few_links : (nodes : List (List ℕ)) (links : List Link) → ∥ IsNetwork nodes links ∥₁ → length links ≤ 256
few_links nodes links net = ∥∥₁_elim net (hlevel props) (λ (n : IsNetwork nodes links). n.few_links)
