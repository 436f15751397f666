-- the demands that a journal leaves belong to the network
use Rattle.std.{proofs.Common.{◌≡◌, ◌≢◌, ◌<◌, ◌^◌, ◌&&◌, ℕ, Bool, true, false, cond, not, List, [], ◌∷◌, ◌++◌, Option, None, Some, All, refl, sym, ap, ◌∙◌, arith, get_or, is_some, leb-false, length, nat_le, nat_lt, position, take, unwrap_or, ltb-true}, proofs.lemmas.List.Filters.{length-filter_both, sum_by-filter_both}}
use Rattle.net_core.{proofs.Library.{All-filter, All-head, All-tail, All-take, AllPairs-filter, cond_both, false≢true, position-Some, same_is}, specs.Terms.first_fault}
use Rattle.plan_terms.specs.Terms.{Accepted, Add, Answered, AreDemands, Case, CutLine, Demand, Drop, Edit, Edited, Entry, IsDemand, KnownDemand, Pooled, Reply, SelfDemand, Set, TooMany, TooMuch, UnknownDemand, UnknownNode, add_fault, added, are_same, edit_need, edit_reply, is_demand, is_named, next_version, node_of, set_need, total_need, within_total, without}
use Rattle.text_kit.specs.Terms.{IsEditInForm}
use Rattle.plan_report.specs.Terms.{IsEntryInForm}
use Rattle.demand_book.proofs.Changed.{added_demands, added_total, is_same, place_known, set_demands}
use Rattle.cut_pool.specs.Histories.{Dated, demands_left, left_by, left_by_entry}

-- fewer demands
without_kept : (n : ℕ) (before : List Demand) (name : List ℕ) → AreDemands n before → AreDemands n (without name before)
without_kept n before name are =
    let keep : Demand → Bool = λ d. not (are_same d.name name) in
    let lose : Demand → Bool = λ d. not (keep d) in
    record {
      few = omega (arith, are.few, length-filter_both keep lose (λ d. refl) before);
      different = AllPairs-filter (λ x y. x.name ≢ y.name) keep before are.different;
      each = All-filter keep (IsDemand n) before are.each;
      total = omega (arith, are.total, sum_by-filter_both keep lose (λ d. refl) (λ x. x.need) before);
    }

-- demands that keep the limit of all needs, or those before
within_kept : (n version : ℕ) (before new : List Demand) → AreDemands n before → (total_need new < 2 ^ 44 → AreDemands n new) → AreDemands n (within_total before version new).1
within_kept n version before new are so =
    cond_both {A = Answered} (nat_lt (total_need new) (2 ^ 44)) (Accepted (next_version version), new) (TooMuch (total_need new), before) (λ answer. AreDemands n answer.1)
    (λ few. so (ltb-true _ _ few)) (λ _. are)

set_kept : (n version : ℕ) (before : List Demand) (name : List ℕ) (need : ℕ) → need < 2 ^ 40 → AreDemands n before
    → AreDemands n (cond {A = Answered} (is_demand name before) (within_total before version (set_need name need before)) (UnknownDemand, before)).1
set_kept n version before name need small are =
    cond_both {A = Answered} (is_demand name before) (within_total before version (set_need name need before)) (UnknownDemand, before) (λ answer. AreDemands n answer.1)
    (λ _. within_kept n version before (set_need name need before) are (λ total. set_demands n before name need are small total)) (λ _. are)

drop_kept : (n version : ℕ) (before : List Demand) (name : List ℕ) → AreDemands n before
    → AreDemands n (cond {A = Answered} (is_demand name before) (Accepted (next_version version), without name before) (UnknownDemand, before)).1
drop_kept n version before name are =
    cond_both {A = Answered} (is_demand name before) (Accepted (next_version version), without name before) (UnknownDemand, before) (λ answer. AreDemands n answer.1)
    (λ _. without_kept n before name are) (λ _. are)

-- ---- a new demand

-- where no test finds a fault, each is false
no_fault : (a b c d : Bool) (w x y z : Reply) → first_fault ((a, w) ∷ (b, x) ∷ (c, y) ∷ (d, z) ∷ []) ≡ None → (a ≡ false) × (b ≡ false) × (c ≡ false) × (d ≡ false)
no_fault true b c d w x y z h = absurd (cc h)
no_fault false true c d w x y z h = absurd (cc h)
no_fault false false true d w x y z h = absurd (cc h)
no_fault false false false true w x y z h = absurd (cc h)
no_fault false false false false w x y z h = (refl, refl, refl, refl)

both_hold : (b c : Bool) → not (b && c) ≡ false → (b ≡ true) × (c ≡ true)
both_hold true true h = (refl, refl)
both_hold true false h = absurd (false≢true (sym h))
both_hold false c h = absurd (false≢true (sym h))

some_place : (o : Option ℕ) → is_some o ≡ true → (k : ℕ) × (o ≡ Some k)
some_place None h = absurd (false≢true h)
some_place (Some k) h = (k, refl)

-- a known name has a place among the nodes
node_there : (nodes : List (List ℕ)) (name : List ℕ) → is_named (λ n. n) name nodes ≡ true → (k : ℕ) × (position (λ n. are_same n name) nodes ≡ Some k)
node_there nodes name known = some_place (position (λ n. are_same n name) nodes) (place_known (λ n. are_same n name) nodes ∙ known)

node_is : (nodes : List (List ℕ)) (name : List ℕ) (k : ℕ) → position (λ n. are_same n name) nodes ≡ Some k → node_of nodes name ≡ k
node_is nodes name k found = ap (λ o. unwrap_or o (length nodes)) found

-- the tests of a new demand
tests_passed : (nodes : List (List ℕ)) (before : List Demand) (name from to : List ℕ) → add_fault nodes before name from to ≡ None
    → (is_demand name before ≡ false) × (not (is_named (λ n. n) from nodes && is_named (λ n. n) to nodes) ≡ false) × (are_same from to ≡ false) × (nat_le 2048 (length before) ≡ false)
tests_passed nodes before name from to none =
    no_fault (is_demand name before) (not (is_named (λ n. n) from nodes && is_named (λ n. n) to nodes)) (are_same from to) (nat_le 2048 (length before))
    KnownDemand UnknownNode SelfDemand TooMany none

-- where no test finds a fault, the new demand joins two nodes
new_sound : (nodes : List (List ℕ)) (before : List Demand) (name from to : List ℕ) (need : ℕ) → need < 2 ^ 40 → add_fault nodes before name from to ≡ None
    → IsDemand (length nodes) (record { name = name; from = record { 0 = node_of nodes from }; to = record { 0 = node_of nodes to }; need = need })
new_sound nodes before name from to need small none =
    let passed = tests_passed nodes before name from to none in
    let known = both_hold (is_named (λ n. n) from nodes) (is_named (λ n. n) to nodes) passed.1 in
    let one = node_there nodes from known.0 in
    let two = node_there nodes to known.1 in
    let at_one = position-Some (λ n. are_same n from) nodes one.0 [] one.1 in
    let at_two = position-Some (λ n. are_same n to) nodes two.0 [] two.1 in
    let first_is : node_of nodes from ≡ one.0 = node_is nodes from one.0 one.1 in
    let second_is : node_of nodes to ≡ two.0 = node_is nodes to two.0 two.1 in
    record {
      from_known = omega (arith, first_is, at_one.0);
      to_known = omega (arith, second_is, at_two.0);
      different = λ same.
          let places : one.0 ≡ two.0 = sym first_is ∙ (same ∙ second_is) in
          let names : from ≡ to = sym (same_is _ _ at_one.1) ∙ (ap (λ k. get_or nodes k []) places ∙ same_is _ _ at_two.1) in
          false≢true (sym passed.2 ∙ is_same from to names);
      need = small;
    }

add_kept : (nodes : List (List ℕ)) (version : ℕ) (before : List Demand) (name from to : List ℕ) (need : ℕ) → need < 2 ^ 40 → AreDemands (length nodes) before
    → (fault : Option Reply) → add_fault nodes before name from to ≡ fault
    → AreDemands (length nodes) (added before version (record { name = name; from = record { 0 = node_of nodes from }; to = record { 0 = node_of nodes to }; need = need }) fault).1
add_kept nodes version before name from to need small are (Some fault) found = are
add_kept nodes version before name from to need small are None none =
    let new : Demand = record { name = name; from = record { 0 = node_of nodes from }; to = record { 0 = node_of nodes to }; need = need } in
    let passed = tests_passed nodes before name from to none in
    within_kept (length nodes) version before (before ++ new ∷ []) are
    (λ total. added_demands (length nodes) before new are (new_sound nodes before name from to need small none) passed.0 (leb-false 2048 (length before) passed.3) (omega (arith, total, added_total before new)))

-- ---- edits and journals

edit_kept : (nodes : List (List ℕ)) (before : List Demand) (version : ℕ) (edit : Edit) → edit_need edit < 2 ^ 40 → AreDemands (length nodes) before
    → AreDemands (length nodes) (edit_reply nodes before version edit).1
edit_kept nodes before version (Set name need) small are = set_kept (length nodes) version before name need small are
edit_kept nodes before version (Add name from to need) small are =
    add_kept nodes version before name from to need small are (add_fault nodes before name from to) refl
edit_kept nodes before version (Drop name) small are = drop_kept (length nodes) version before name are

-- an edit in form names a small need
small_need : (edit : Edit) → IsEditInForm edit → edit_need edit < 2 ^ 40
small_need (Set name need) form = form.1
small_need (Add name from to need) form = form.3
small_need (Drop name) form = omega arith

entry_kept : (nodes : List (List ℕ)) (pool : List CutLine) (d : Dated) (e : Entry) → IsEntryInForm pool e → AreDemands (length nodes) d.demands
    → AreDemands (length nodes) (left_by_entry nodes d e).demands
entry_kept nodes pool d (Edited caller edit reply) form are = edit_kept nodes d.demands d.version edit (small_need edit form.asked) are
entry_kept nodes pool d (Pooled index state lengths) form are = are

entries_kept : (nodes : List (List ℕ)) (pool : List CutLine) (d : Dated) (es : List Entry) → All (IsEntryInForm pool) es → AreDemands (length nodes) d.demands
    → AreDemands (length nodes) (left_by nodes d es).demands
entries_kept nodes pool d [] forms are = are
entries_kept nodes pool d (e ∷ es) forms are =
    entries_kept nodes pool (left_by_entry nodes d e) es (All-tail (IsEntryInForm pool) e es forms)
    (entry_kept nodes pool d e (All-head (IsEntryInForm pool) e es forms) are)

-- what entries in form leave of demands of the network are demands of it
pub demands_kept : (p : Case) (pool : List CutLine) (es : List Entry) (position : ℕ) → All (IsEntryInForm pool) es → AreDemands (length p.nodes) p.demands
    → AreDemands (length p.nodes) (demands_left p (take position es))
demands_kept p pool es position forms are =
    entries_kept p.nodes pool (record { demands = p.demands; version = 0 }) (take position es) (All-take (IsEntryInForm pool) position es forms) are
