-- what is sound has no fault
use Rattle.std.{proofs.Common.{◌≡◌, ◌≢◌, ℕ, ◌+◌, ◌<◌, ◌≤◌, ◌^◌, Bool, false, cond, not, ◌||◌, ◌&&◌, ◌==◌, nat_lt, List, [], ◌∷◌, ◌++◌, All, AllPairs, Option, None, Some, get_or, length, refl, sym, ◌∙◌, ap, subst, arith, ⊎_elim, append_assoc}, specs.Option.option_or, specs.List.{list_any, AllByRecursion}, proofs.lemmas.List.{length-append, get_or_append_left, nil_from_length}, proofs.Math.Seq.get_or-append_seam, proofs.lemmas.List.Elements.recursion_from_All, proofs.lemmas.List.Folds.list_any_none, proofs.lemmas.Bool.{le-ltb, lt-ltb, lt-leb, ne_eqb, cases_eq, or_from, and_from, and_left, and_right, not_from_true, false_from_ne_true}, proofs.lemmas.Bool.Decides.Decides-eqb, proofs.lemmas.Slice.Eq.slice_eq-Decides}
use Rattle.net_core.{specs.declared.network.Module.Module, specs.declared.network.Link.Link, specs.declared.states.Listed.Listed, specs.Tests.{first_fault, are_same, is_named, is_large}, specs.Network.{IsModule, IsLink, IsNetwork, link_tests, links_tests, nodes_tests, network_fault}, specs.States.{AreStates, listed_tests, all_listed_tests, states_fault}, proofs.Checks.first_fault-append}

-- a test that finds nothing, before others that find nothing
next_none : {F : Type 0} (b : Bool) (f : F) (rest : Option F) → b ≡ false → rest ≡ None → cond b (Some f) rest ≡ None
next_none b f rest h r = ap (λ v. cond v (Some f) rest) h ∙ r

both_none : {F : Type 0} (a b : List (Bool × F)) → first_fault a ≡ None → first_fault b ≡ None → first_fault (a ++ b) ≡ None
both_none a b h r = first_fault-append a b ∙ (ap (λ v. option_or v (first_fault b)) h ∙ r)

pub differ : (a b : List ℕ) → a ≢ b → are_same a b ≡ false
differ a b ne = false_from_ne_true (are_same a b) (λ e. ne ((slice_eq-Decides Decides-eqb a b (are_same a b) refl).0 e))

-- of things with different names the next one has a new name
pub new_name : {X : Type 0} (name_of : X → List ℕ) (earlier : List X) (x : X) (rest : List X) → AllPairs (λ a b. name_of a ≢ name_of b) (earlier ++ x ∷ rest) → is_named name_of (name_of x) earlier ≡ false
new_name name_of earlier x rest pairs =
    list_any_none (λ y. are_same (name_of y) (name_of x)) earlier (λ k d lt.
    let long : length (earlier ++ x ∷ rest) ≡ length earlier + length (x ∷ rest) = length-append earlier (x ∷ rest) in
    let pair = pairs k (length earlier) d lt (omega (arith, long)) in
    let first : get_or (earlier ++ x ∷ rest) k d ≡ get_or earlier k d = get_or_append_left earlier (x ∷ rest) d k lt in
    let second : get_or (earlier ++ x ∷ rest) (length earlier) d ≡ x = get_or-append_seam earlier x rest d in
    differ (name_of (get_or earlier k d)) (name_of x) (λ e. pair (ap name_of first ∙ (e ∙ sym (ap name_of second)))))

-- one element more among the earlier ones
shifted : {X : Type 0} (R : X → X → Type 0) (earlier : List X) (x : X) (rest : List X) → AllPairs R (earlier ++ x ∷ rest) → AllPairs R ((earlier ++ x ∷ []) ++ rest)
shifted R earlier x rest pairs = subst (λ xs. AllPairs R xs) (sym (append_assoc earlier (x ∷ []) rest)) pairs

nodes_none : (earlier names : List (List ℕ)) → AllPairs (λ x y. x ≢ y) (earlier ++ names) → first_fault (nodes_tests earlier names) ≡ None
nodes_none earlier [] pairs = refl
nodes_none earlier (name ∷ names) pairs =
    next_none _ _ _ (new_name (λ x. x) earlier name names pairs) (nodes_none (earlier ++ name ∷ []) names (shifted (λ x y. x ≢ y) earlier name names pairs))

small : (n : ℕ) → n < 2 ^ 40 → is_large n ≡ false
small n lt = lt-leb (2 ^ 40) n lt

module_small : (m : Module) → IsModule m → (is_large m.capacity || is_large m.cost) ≡ false
module_small m is = or_from (is_large m.capacity) (is_large m.cost) (small m.capacity is.capacity) (small m.cost is.cost)

-- pre-installed capacity comes with a module
fixed_served : (l : Link) → (l.modules ≡ [] → l.fixed ≡ 0) → ((length l.modules == 0) && nat_lt 0 l.fixed) ≡ false
fixed_served l served = ⊎_elim
    (λ none. and_right (length l.modules == 0) (nat_lt 0 l.fixed) (le-ltb 0 l.fixed (let zero = served (nil_from_length l.modules none) in omega (arith, zero))))
    (λ some. and_left (length l.modules == 0) (nat_lt 0 l.fixed) (ne_eqb (length l.modules) 0 some))
    (cases_eq (length l.modules) 0)

link_none : (n : ℕ) (earlier : List Link) (l : Link) (rest : List Link) → AllPairs (λ x y. x.name ≢ y.name) (earlier ++ l ∷ rest) → IsLink n l → first_fault (link_tests n earlier l) ≡ None
link_none n earlier l rest pairs is =
    let small_modules = list_any_none (λ m. is_large m.capacity || is_large m.cost) l.modules (λ k d lt. module_small (get_or l.modules k d) (is.each k d lt)) in
    next_none _ _ _ (new_name (λ (e : Link). e.name) earlier l rest pairs)
    (next_none _ _ _ (not_from_true (nat_lt l.a.0 n && nat_lt l.b.0 n) (and_from (nat_lt l.a.0 n) (nat_lt l.b.0 n) (lt-ltb l.a.0 n is.from) (lt-ltb l.b.0 n is.to)))
    (next_none _ _ _ (ne_eqb l.a.0 l.b.0 is.different)
    (next_none _ _ _ (or_from (is_large l.fixed || is_large l.setup) (list_any (λ m. is_large m.capacity || is_large m.cost) l.modules) (or_from (is_large l.fixed) (is_large l.setup) (small l.fixed is.fixed) (small l.setup is.setup)) small_modules)
    (next_none _ _ _ (le-ltb 16 (length l.modules) is.few)
    (next_none _ _ _ (list_any_none (λ m. m.capacity == 0) l.modules (λ k d lt. let carries = (is.each k d lt).carries in ne_eqb (get_or l.modules k d).capacity 0 (λ e. omega (arith, e, carries))))
    (next_none _ _ _ (fixed_served l is.served) refl))))))

links_none : (n : ℕ) (earlier links : List Link) → AllPairs (λ x y. x.name ≢ y.name) (earlier ++ links) → AllByRecursion (IsLink n) links → first_fault (links_tests n earlier links) ≡ None
links_none n earlier [] pairs each = refl
links_none n earlier (l ∷ ls) pairs each =
    both_none (link_tests n earlier l) (links_tests n (earlier ++ l ∷ []) ls) (link_none n earlier l ls pairs each.0)
    (links_none n (earlier ++ l ∷ []) ls (shifted (λ x y. x.name ≢ y.name) earlier l ls pairs) each.1)

pub network_accepted : (nodes : List (List ℕ)) (links : List Link) → IsNetwork nodes links → network_fault nodes links ≡ None
network_accepted nodes links is =
    next_none _ _ _ (le-ltb 128 (length nodes) is.few_nodes)
    (next_none _ _ _ (le-ltb 256 (length links) is.few_links)
    (both_none (nodes_tests [] nodes) (links_tests (length nodes) [] links) (nodes_none [] nodes is.different_nodes)
    (links_none (length nodes) [] links is.different_links (recursion_from_All (IsLink (length nodes)) links is.sound))))

-- a listed state of known links
pub record IsKnownState (n : ℕ) (l : Listed) : Type 0 where
  pub some : 1 ≤ length l.links
  pub known : All (λ e. e.0 < n) l.links

listed_none : (n : ℕ) (earlier : List Listed) (l : Listed) (rest : List Listed) → AllPairs (λ x y. x.name ≢ y.name) (earlier ++ l ∷ rest) → IsKnownState n l → first_fault (listed_tests n earlier l) ≡ None
listed_none n earlier l rest pairs is =
    let some = is.some in
    next_none _ _ _ (ne_eqb (length l.links) 0 (λ e. omega (arith, e, some)))
    (next_none _ _ _ (list_any_none (λ e. not (nat_lt e.0 n)) l.links (λ k d lt. not_from_true (nat_lt (get_or l.links k d).0 n) (lt-ltb (get_or l.links k d).0 n (is.known k d lt))))
    (next_none _ _ _ (new_name (λ (x : Listed). x.name) earlier l rest pairs) refl))

all_listed_none : (n : ℕ) (earlier listed : List Listed) → AllPairs (λ x y. x.name ≢ y.name) (earlier ++ listed) → AllByRecursion (IsKnownState n) listed → first_fault (all_listed_tests n earlier listed) ≡ None
all_listed_none n earlier [] pairs each = refl
all_listed_none n earlier (l ∷ ls) pairs each =
    both_none (listed_tests n earlier l) (all_listed_tests n (earlier ++ l ∷ []) ls) (listed_none n earlier l ls pairs each.0)
    (all_listed_none n (earlier ++ l ∷ []) ls (shifted (λ x y. x.name ≢ y.name) earlier l ls pairs) each.1)

pub states_accepted : (n : ℕ) (listed : List Listed) → AreStates n listed → states_fault n listed ≡ None
states_accepted n listed is =
    let each : All (IsKnownState n) listed = λ k d lt. record { some = is.checked.some k d lt; known = is.known k d lt } in
    next_none _ _ _ (le-ltb 256 (length listed) is.checked.few)
    (all_listed_none n [] listed is.checked.different (recursion_from_All (IsKnownState n) listed each))
